-- `faults`
use Rattle.rounding.proofs.Common.{refl}
use Rattle.std.specs.Fmt.{digits}
use Rattle.rounding.proofs.worked.faults.Goals as goal

pub returns-clause-none : goal.returns-clause-none
unfolding digits
returns-clause-none c = refl
