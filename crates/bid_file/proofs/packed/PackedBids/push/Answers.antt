-- `PackedBids::push`
use Rattle.std.proofs.Common.{◌∙◌, ◌++◌, ◌∷◌, [], List, ap, arith, length, length-append}
use Rattle.bid_file.specs.Files.{PlainBid}
use Rattle.bid_file.specs.declared.packed.BidSpan.{BidSpan}
use Rattle.bid_file.proofs.Spans.{spans_push, spans_kept, held_push, on_err}
use Rattle.bid_file.proofs.packed.PackedBids.push.Goals as goal

pub returns-clause-bids : goal.returns-clause-bids
returns-clause-bids c =
    let o : BidSpan = record { price = c.args.price; start = c.in_ok-start.start; end = c.in_ok-start.end; dummy = c.args.dummy } in
    let bid : PlainBid = record { price = c.args.price; goods = c.args.goods.now; dummy = c.args.dummy } in
    spans_push c.self.inside.goods.items c.args.goods.now c.append.new.all.items c.self.inside.spans.items c.push.new.self.items o
    c.self.invariant c.in_ok-start.ensures.goods c.in_ok-start.ensures.start c.in_ok-start.ensures.end
    c.in_ok-push.ensures.items ∙ ap (λ (bs : List PlainBid). bs ++ bid ∷ []) c.self.view_is

-- where memory for the span is refused, the goods that were put behind the others belong to no bid
pub returns-in_err-push-clause-same : goal.returns-in_err-push-clause-same
returns-in_err-push-clause-same c =
    on_err c.from_residual-in_err-push.result
    (spans_kept c.self.inside.goods.items c.args.goods.now c.append.new.all.items c.self.inside.spans.items c.push.new.self.items
    c.self.invariant c.in_ok-start.ensures.goods c.in_err-push.ensures.items ∙ c.self.view_is)

pub invariant_of-self-2 : goal.invariant_of-self-2
invariant_of-self-2 c =
    let o : BidSpan = record { price = c.args.price; start = c.in_ok-start.start; end = c.in_ok-start.end; dummy = c.args.dummy } in
    rw c.in_ok-push.ensures.items
    (held_push (length c.self.inside.goods.items) (length c.append.new.all.items) c.self.inside.spans.items o c.self.invariant
    (grind (arith, c.in_ok-start.ensures.goods, length-append))
    (grind (arith, c.in_ok-start.ensures.goods, c.in_ok-start.ensures.start, c.in_ok-start.ensures.end, length-append)))
