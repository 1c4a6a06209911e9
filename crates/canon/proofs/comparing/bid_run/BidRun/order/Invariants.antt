-- `BidRun::order`
use Rattle.canon.proofs.Common.{◌≡◌, drop, bidder_cmp, offers}
use Rattle.canon.proofs.comparing.bid_run.BidRun.order.Given as goal

-- the bids from here on decide
abbrev pub invariant-loop-i : goal.invariant-loop-i
invariant-loop-i g l = bidder_cmp (drop l.i (offers l.self)) (drop l.i (offers l.other)) ≡ bidder_cmp (offers l.self) (offers l.other)
