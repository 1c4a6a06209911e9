-- `push_prices`
use Rattle.analysis.proofs.Common.{◌++◌, [], None, ap, sym, ◌∙◌, get_or_from_slice_get, PlainBid, PlainFile, seen_bid, bid_at, price_term}
use Rattle.analysis.proofs.Allocating.RowTexts.{line_behind}
use Rattle.analysis.proofs.winners.lp.push_prices.Goals as goal

pub loop-number-preserved : goal.loop-number-preserved
loop-number-preserved c =
    let f : PlainFile = c.args.file.now in
    let n = c.loop-number.number in
    let bid = get_or_from_slice_get f.bids n (seen_bid c.at.result) (record { price = 0; goods = []; dummy = None }) c.at.ensures in
    line_behind (λ i. price_term c.args.exact (bid_at f i).price i) n _ _ _ c.loop-number.invariant
    (c.in_ok-push_price_term.ensures ∙ ap (λ (b : PlainBid). c.loop-number.text.items ++ price_term c.args.exact b.price n) (sym bid))
