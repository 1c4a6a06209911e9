-- `excess_bidders`
use Rattle.analysis.proofs.Comparing.ExcessBidders.{AreWalked}
use Rattle.analysis.proofs.differences.excess.excess_bidders.Given as goal

abbrev pub invariant-loop-index : goal.invariant-loop-index
invariant-loop-index g l = AreWalked l.bidders l.others l.index l.end l.excess.items
