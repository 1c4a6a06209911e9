-- `are_sums_exact`
use Rattle.analysis.proofs.Common.{◌≡◌, ℕ, ◌+◌, ◌<◌, ◌≤◌, [], None, ap, arith, subst, range_with_len, ◌∙◌, get_or_from_slice_get, PlainBid, PlainFile}
use Rattle.analysis.proofs.Common.{seen_bid, MAX_PRICE, bid_at, revenue, sum_by_push}
use Rattle.analysis.proofs.Explaining.KeptBids.{bid_here}
use Rattle.analysis.proofs.Allocating.RowTexts.{range_next}
use Rattle.analysis.proofs.winners.lp.are_sums_exact.Goals as goal

pub loop-number-preserved : goal.loop-number-preserved
loop-number-preserved c =
    let f : PlainFile = c.args.file.now in
    let n = c.loop-number.number in
    let more : revenue f (range_with_len 0 (n + 1)) ≡ revenue f (range_with_len 0 n) + (bid_at f n).price =
    ap (revenue f) (range_next n) ∙ sum_by_push (λ i. (bid_at f i).price) (range_with_len 0 n) n in
    let price : (bid_at f n).price ≡ c.at.result.price =
    ap (λ (b : PlainBid). b.price)
    (get_or_from_slice_get f.bids n (seen_bid c.at.result) (record { price = 0; goods = []; dummy = None }) c.at.ensures) in
    let within = subst (λ (m : ℕ). n < m) c.len-number-end.ensures c.loop-number-test.true in
    let most : (bid_at f n).price ≤ MAX_PRICE = (bid_here f c.requires n within).price in
    record { sum_is = omega arith; bound = omega arith }
