-- `names`
use Rattle.std.proofs.Common.{refl}
use Rattle.std.specs.Fmt.{digits}
use Rattle.cats_c.proofs.worked.names.Goals as goal

pub returns : goal.returns
unfolding digits
returns c = refl
