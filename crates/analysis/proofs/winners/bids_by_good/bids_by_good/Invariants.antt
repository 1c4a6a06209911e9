-- `bids_by_good`
use Rattle.analysis.proofs.Common.{AreByGood, lists_of}
use Rattle.analysis.proofs.winners.bids_by_good.bids_by_good.Given as goal

-- the numbers of the bids so far are there
abbrev pub invariant-loop-number : goal.invariant-loop-number
invariant-loop-number l = AreByGood l.file l.number (lists_of l.lists.items)
