-- `whole_millionths_are_kept`
use Rattle.rounding.proofs.Exactness.{whole_kept}
use Rattle.rounding.proofs.laws.whole_millionths_are_kept.Goals as goal

pub returns : goal.returns
returns c = whole_kept
