-- `explanations`
use Rattle.commands.proofs.Common.{refl}
use Rattle.std.specs.Fmt.{digits}
use Rattle.commands.proofs.explain.explanations.Goals as goal

pub returns : goal.returns
unfolding digits
returns c = record { no_bids = refl; kept = refl; packing = refl; inside = refl; zero = refl; same = refl; two_bids = refl }
