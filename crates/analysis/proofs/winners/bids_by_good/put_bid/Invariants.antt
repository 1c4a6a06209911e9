-- `put_bid`
use Rattle.analysis.proofs.Common.{◌≡◌, take, lists_of, with_bid}
use Rattle.analysis.proofs.winners.bids_by_good.put_bid.Given as goal

-- the number is in the lists of the goods so far
abbrev pub invariant-loop-good : goal.invariant-loop-good
invariant-loop-good l = lists_of l.lists.items ≡ with_bid l.number (lists_of l.initial.lists.items) (take l.good-index l.bid.goods.now)
