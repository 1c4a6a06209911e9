-- `push_prices`
use Rattle.analysis.proofs.Common.{◌≡◌, ◌++◌, flat_map, range_with_len, bid_at, price_term}
use Rattle.analysis.proofs.winners.lp.push_prices.Given as goal

-- the terms of the bids so far are appended
abbrev pub invariant-loop-number : goal.invariant-loop-number
invariant-loop-number l = l.text.items ≡ l.initial.text.items ++ flat_map (λ i. price_term l.exact (bid_at l.file i).price i) (range_with_len 0 l.number)
