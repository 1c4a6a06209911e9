-- `left_changes`
use Rattle.analysis.proofs.Common.{◌≡◌, map, take, offers, bidder_at, waiting_after, AreLefts, ArePartners, plain_bidder_change}
use Rattle.analysis.proofs.differences.bidder_changes.left_changes.Given as goal

-- the changes of the left bidders so far, whose partners wait no more
abbrev pub invariant-loop-index : goal.invariant-loop-index
invariant-loop-index g l =
    let left = map offers l.left in
    let right = map offers l.right in
    let excess = l.fn.partners.excess.items in
    record {
      same : l.partners.excess ≡ l.fn.partners.excess;
      waiting : ArePartners right (waiting_after right excess excess (map (bidder_at left) (take l.index-index l.lefts))) l.partners;
      so_far : AreLefts left right (take l.index-index l.lefts) excess (map plain_bidder_change l.changes.items);
    }
