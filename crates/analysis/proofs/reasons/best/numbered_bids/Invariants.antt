-- `numbered_bids`: the first bids are numbered.
use Rattle.analysis.proofs.Common.{◌≡◌, ◌<◌, ℕ, length, get_or, seen_bid, NumberedBid, bid_at}
use Rattle.analysis.proofs.reasons.best.numbered_bids.Given as goal

abbrev pub invariant-loop-number : goal.invariant-loop-number
invariant-loop-number l = record {
  long : length l.bids.items ≡ l.number;
  each : (k : ℕ) (d : NumberedBid) → k < l.number → ((get_or l.bids.items k d).number ≡ k) × (seen_bid (get_or l.bids.items k d).bid ≡ bid_at l.file k);
}
