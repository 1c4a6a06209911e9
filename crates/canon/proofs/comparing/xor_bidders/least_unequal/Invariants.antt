-- `least_unequal`
use Rattle.canon.proofs.Common.{length, PlainAuction, HasBidders}
use Rattle.canon.proofs.Walks.BidderWalks.{AreAlike}
use Rattle.canon.proofs.comparing.xor_bidders.least_unequal.Given as goal

-- the bidders so far were the same
abbrev pub invariant-loop-one : goal.invariant-loop-one
invariant-loop-one g l = (a b : PlainAuction) → HasBidders a l.left → HasBidders b l.right → AreAlike a.xor_bidders b.xor_bidders l.left_rest l.right_rest

abbrev pub decreases-loop-one : goal.decreases-loop-one
decreases-loop-one g l = length l.left_rest
