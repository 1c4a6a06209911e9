-- `revenues`
use Rattle.commands.proofs.Common.{refl}
use Rattle.std.specs.Fmt.{digits}
use Rattle.commands.proofs.revenue.revenues.Goals as goal

pub returns : goal.returns
unfolding digits
returns c = record { sum = refl; clash = refl; missing = refl; both = refl }
