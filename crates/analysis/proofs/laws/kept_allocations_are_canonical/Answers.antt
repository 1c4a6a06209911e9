-- `kept_allocations_are_canonical`
use Rattle.analysis.proofs.Common.{rules}
use Rattle.analysis.proofs.Allocating.CanonicalNumbers.{back, forth, kept_here, moved_there}
use Rattle.analysis.proofs.laws.kept_allocations_are_canonical.Goals as goal

pub returns : goal.returns
returns c = search (rules, kept_here, moved_there, back, forth)
