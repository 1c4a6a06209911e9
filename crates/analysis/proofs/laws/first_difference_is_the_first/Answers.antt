-- `first_difference_is_the_first`
use Rattle.analysis.proofs.Common.{rules, HasAtoms-auction}
use Rattle.analysis.proofs.Comparing.BeginAuctions.{begins_with_first, none_exactly_for_same}
use Rattle.analysis.proofs.laws.first_difference_is_the_first.Goals as goal

pub returns : goal.returns
returns c = search (rules, HasAtoms-auction, none_exactly_for_same, begins_with_first)
