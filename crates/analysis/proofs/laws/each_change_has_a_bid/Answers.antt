-- `each_change_has_a_bid`
use Rattle.analysis.proofs.Common.{rules, HasAtoms-auction}
use Rattle.analysis.proofs.Comparing.ChangesWithBids.{each_has_a_bid}
use Rattle.analysis.proofs.laws.each_change_has_a_bid.Goals as goal

pub returns : goal.returns
returns c = search (rules, each_has_a_bid, HasAtoms-auction)
