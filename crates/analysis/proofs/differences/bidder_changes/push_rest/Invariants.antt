-- `push_rest`
use Rattle.analysis.proofs.Common.{map, take, offers, AreRest, plain_bidder_change}
use Rattle.analysis.proofs.differences.bidder_changes.push_rest.Given as goal

-- the right bidders so far are added
abbrev pub invariant-loop-index : goal.invariant-loop-index
invariant-loop-index g l = AreRest (map offers l.left) (map offers l.right) (take l.index-index l.rest) (map plain_bidder_change l.fn.changes.items)
    (map plain_bidder_change l.changes.items)
