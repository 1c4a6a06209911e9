-- `layouts`
use Rattle.rounding.proofs.Common.{refl}
use Rattle.std.specs.Fmt.{digits}
use Rattle.rounding.proofs.worked.layouts.Goals as goal

pub returns-clause-text : goal.returns-clause-text
unfolding digits
returns-clause-text c = refl
