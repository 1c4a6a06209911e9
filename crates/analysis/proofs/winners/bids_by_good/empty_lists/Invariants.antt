-- `empty_lists`
use Rattle.analysis.proofs.Common.{◌≡◌, [], replicate, lists_of}
use Rattle.analysis.proofs.winners.bids_by_good.empty_lists.Given as goal

-- so many lists are made
abbrev pub invariant-loop : goal.invariant-loop
invariant-loop l = lists_of l.lists.items ≡ replicate l.counter []
