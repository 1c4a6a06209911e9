-- `BidRun::order`
use Rattle.canon.proofs.Common.{rules, ◌+◌, drop, sym, ◌∙◌, seen_bid, bidder_cmp, offers, then-decided, then-left, slice_cmp-ended}
use Rattle.canon.proofs.Walks.BidOrders.{bidder_cmp-drop, length-offers}
use Rattle.canon.proofs.comparing.bid_run.BidRun.order.Goals as goal

pub returns-then-is_ne : goal.returns-then-is_ne
returns-then-is_ne g c =
    let some = c.args.self.now in
    let other = c.args.other.now in
    let i = c.loop-i.i in
    let later = bidder_cmp (drop (i + 1) (offers some)) (drop (i + 1) (offers other)) in
    let turn = bidder_cmp-drop some other i (seen_bid c.at.result) (seen_bid c.at-in-loop-i.result) c.at.ensures c.at-in-loop-i.ensures in
    let differ = rw c.canonical_order-bids.ensures at (sym c.is_ne.ensures ∙ c.if-is_ne.true) in
    c.canonical_order-bids.ensures ∙ sym (then-decided _ later differ) ∙ sym turn ∙ c.loop-i.invariant

pub loop-i-preserved : goal.loop-i-preserved
loop-i-preserved g c =
    let some = c.args.self.now in
    let other = c.args.other.now in
    let i = c.loop-i.i in
    let later = bidder_cmp (drop (i + 1) (offers some)) (drop (i + 1) (offers other)) in
    let turn = bidder_cmp-drop some other i (seen_bid c.at.result) (seen_bid c.at-in-loop-i.result) c.at.ensures c.at-in-loop-i.ensures in
    let same = rw c.canonical_order-bids.ensures at (sym c.is_ne.ensures ∙ c.if-is_ne.false) in
    sym (then-left _ later same) ∙ sym turn ∙ c.loop-i.invariant

pub returns : goal.returns
returns g c = search (rules, length-offers, slice_cmp-ended)
