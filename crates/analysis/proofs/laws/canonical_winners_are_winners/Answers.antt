-- `canonical_winners_are_winners`
use Rattle.analysis.proofs.Common.{rules}
use Rattle.analysis.proofs.Allocating.CanonicalNumbers.{moved_here, reason_there}
use Rattle.analysis.proofs.Allocating.Winning.{winners_here}
use Rattle.analysis.proofs.laws.canonical_winners_are_winners.Goals as goal

pub returns : goal.returns
returns c = search (rules, reason_there, moved_here, winners_here)
