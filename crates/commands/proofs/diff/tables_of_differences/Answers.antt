-- `tables_of_differences`
use Rattle.commands.proofs.Common.{refl}
use Rattle.std.specs.Fmt.{digits}
use Rattle.commands.proofs.diff.tables_of_differences.Goals as goal

pub returns : goal.returns
unfolding digits
returns c = record { none = refl; goods = refl; bundles = refl; best = refl; not_kept = refl; statuses = refl }
