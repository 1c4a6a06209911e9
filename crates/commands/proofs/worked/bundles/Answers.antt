-- `bundles`
use Rattle.commands.proofs.Common.{refl}
use Rattle.std.specs.Fmt.{digits}
use Rattle.commands.proofs.worked.bundles.Goals as goal

pub returns-clause-line : goal.returns-clause-line
unfolding digits
returns-clause-line c = refl

pub returns-clause-cell : goal.returns-clause-cell
unfolding digits
returns-clause-cell c = refl
