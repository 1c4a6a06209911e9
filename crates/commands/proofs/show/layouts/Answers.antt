-- `layouts`
use Rattle.commands.proofs.Common.{refl}
use Rattle.std.specs.Fmt.{digits}
use Rattle.commands.proofs.show.layouts.Goals as goal

pub returns : goal.returns
unfolding digits
returns c = refl
