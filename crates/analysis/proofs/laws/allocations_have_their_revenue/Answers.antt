-- `allocations_have_their_revenue`
use Rattle.analysis.proofs.Common.{rules}
use Rattle.analysis.proofs.Allocating.TrueVerdicts.{has_revenue, if_revenue}
use Rattle.analysis.proofs.laws.allocations_have_their_revenue.Goals as goal

pub returns : goal.returns
returns c = search (rules, has_revenue, if_revenue)
