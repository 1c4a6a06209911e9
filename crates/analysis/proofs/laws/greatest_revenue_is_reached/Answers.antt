-- `greatest_revenue_is_reached`
use Rattle.analysis.proofs.Allocating.Allocations.{revenue_at_most, winners_there}
use Rattle.analysis.proofs.laws.greatest_revenue_is_reached.Goals as goal

pub returns : goal.returns
returns c = record { most = revenue_at_most; reached = winners_there }
