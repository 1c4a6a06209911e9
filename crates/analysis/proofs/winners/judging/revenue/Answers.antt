-- `revenue`
use Rattle.analysis.proofs.Common.{◌≡◌, ◌+◌, ◌<◌, ◌≤◌, [], None, ap, arith, get_or, length, take, ◌∙◌, take_more, get_or_from_slice_get, PlainBid, PlainFile}
use Rattle.analysis.proofs.Common.{seen_bid, MAX_PRICE, bid_at, revenue, sum_by_push}
use Rattle.analysis.proofs.Explaining.KeptBids.{bid_here}
use Rattle.analysis.proofs.winners.judging.revenue.Goals as goal

pub loop-number-preserved : goal.loop-number-preserved
loop-number-preserved c =
    let f : PlainFile = c.args.file.now in
    let winners = c.args.winners.now in
    let k = c.loop-number.number-index in
    let n = get_or winners k 0 in
    let within : k < length winners = c.loop-number-test.true in
    let more : revenue f (take (k + 1) winners) ≡ revenue f (take k winners) + (bid_at f n).price =
    ap (revenue f) (take_more winners k 0 within) ∙ sum_by_push (λ i. (bid_at f i).price) (take k winners) n in
    let price : (bid_at f n).price ≡ c.at-bid.result.price =
    ap (λ (b : PlainBid). b.price)
    (get_or_from_slice_get f.bids n (seen_bid c.at-bid.result) (record { price = 0; goods = []; dummy = None }) c.at-bid.ensures) in
    let most : (bid_at f n).price ≤ MAX_PRICE = (bid_here f c.requires.plain n (c.requires.within k 0 within)).price in
    record { sum_is = omega arith; bound = omega arith }
