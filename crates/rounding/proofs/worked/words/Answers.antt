-- `words`
use Rattle.rounding.proofs.Common.{refl}
use Rattle.std.specs.Fmt.{digits}
use Rattle.rounding.proofs.worked.words.Goals as goal

pub returns : goal.returns
unfolding digits
returns c = refl
