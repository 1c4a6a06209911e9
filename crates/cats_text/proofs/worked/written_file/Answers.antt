-- `written_file`
use Rattle.cats_text.proofs.Common.{refl}
use Rattle.std.specs.Fmt.{digits}
use Rattle.cats_text.proofs.worked.written_file.Goals as goal

pub returns : goal.returns
unfolding digits
returns c = refl
