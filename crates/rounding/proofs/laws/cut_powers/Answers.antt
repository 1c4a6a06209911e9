-- `cut_powers`
use Rattle.rounding.proofs.Exactness.{powers_cut}
use Rattle.rounding.proofs.laws.cut_powers.Goals as goal

pub returns : goal.returns
returns c = powers_cut
