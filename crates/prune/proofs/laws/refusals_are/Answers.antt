-- `refusals_are`
use Rattle.prune.proofs.Common.{none_refused, none_refused-from}
use Rattle.prune.proofs.laws.refusals_are.Goals as goal

pub returns : goal.returns
returns c = λ options goods atoms. (none_refused options goods atoms, none_refused-from options goods atoms)
