-- `rounded_texts`
use Rattle.cats_cmd.proofs.Common.{refl}
use Rattle.std.specs.Fmt.{digits}
use Rattle.cats_cmd.proofs.worked.rounded_texts.Goals as goal

pub returns : goal.returns
unfolding digits
returns c = refl
