-- `first_bid_on`: no bid before it is on the bundle.
use Rattle.commands.proofs.Common.{◌≡◌, ◌<◌, ℕ, false, get_or, PlainBid, is_on}
use Rattle.commands.proofs.faults.heavy_bid.first_bid_on.Given as goal

abbrev pub invariant-loop-number : goal.invariant-loop-number
invariant-loop-number l = (k : ℕ) (d : PlainBid) → k < l.number → is_on l.goods (get_or l.file.bids k d) ≡ false
