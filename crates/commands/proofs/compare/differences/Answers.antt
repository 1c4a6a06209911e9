-- `differences`
use Rattle.commands.proofs.Common.{refl}
use Rattle.std.specs.Fmt.{digits}
use Rattle.commands.proofs.compare.differences.Goals as goal

pub returns : goal.returns
unfolding digits
returns c = record { same = refl; goods = refl; below = refl; pair = refl; bidder = refl; statuses = refl }
