-- `sizes`
use Rattle.commands.proofs.Common.{refl}
use Rattle.std.specs.Fmt.{digits}
use Rattle.commands.proofs.check.sizes.Goals as goal

pub returns : goal.returns
unfolding digits
returns c = record { file = refl; line = refl }
