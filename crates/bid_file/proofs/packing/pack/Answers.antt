-- `pack`
use Rattle.std.proofs.Common.{◌∙◌, List, ◌++◌, ◌∷◌, [], ap, sym}
use Rattle.bid_file.specs.Files.{PlainBid}
use Rattle.bid_file.specs.Views.{seen_bid}
use Rattle.bid_file.proofs.Spans.{take_bid}
use Rattle.bid_file.proofs.packing.pack.Goals as goal

pub loop-number-preserved : goal.loop-number-preserved
loop-number-preserved g c =
    let bids = (g.B.Bids.file c.args.file.now).bids in
    let bid : PlainBid = seen_bid c.at-bid.result in
    c.in_ok-push.ensures.bids ∙ ap (λ (bs : List PlainBid). bs ++ bid ∷ []) c.loop-number.invariant
    ∙ sym (take_bid bids c.loop-number.number bid c.at-bid.ensures)
