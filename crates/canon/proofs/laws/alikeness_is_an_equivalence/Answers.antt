-- `alikeness_is_an_equivalence`
use Rattle.canon.proofs.Common.{rules}
use Rattle.canon.proofs.laws.alikeness_is_an_equivalence.Goals as goal

pub returns : goal.returns
returns c = search rules
