-- `push_row`
use Rattle.analysis.proofs.Common.{◌≡◌, ◌++◌, take, flat_map, row_term}
use Rattle.analysis.proofs.winners.lp.push_row.Given as goal

-- the terms of the bids so far are appended
abbrev pub invariant-loop-bid : goal.invariant-loop-bid
invariant-loop-bid l = l.text.items ≡ l.initial.text.items ++ flat_map row_term (take l.bid-index l.bids)
