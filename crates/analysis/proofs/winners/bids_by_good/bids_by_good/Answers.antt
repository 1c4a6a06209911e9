-- `bids_by_good`
use Rattle.analysis.proofs.Common.{[], None, ℕ, ap, sym, ◌∙◌, get_or_from_slice_get, PlainFile, goods_of, seen_bid, lists_of, with_bid, IsBid-there}
use Rattle.analysis.proofs.Allocating.ByGood.{bid_put}
use Rattle.analysis.proofs.winners.bids_by_good.bids_by_good.Goals as goal

pub loop-number-preserved : goal.loop-number-preserved
loop-number-preserved c =
    let f : PlainFile = c.args.file.now in
    let n = c.loop-number.number in
    let bid = seen_bid c.at.result in
    let lists = lists_of c.loop-number.lists.items in
    bid_put f n bid lists _ (IsBid-there f.goods f.dummy f.bids n bid c.requires.each c.at.ensures)
    (sym (get_or_from_slice_get f.bids n bid (record { price = 0; goods = []; dummy = None }) c.at.ensures))
    (c.in_ok-put_bid.ensures ∙ ap (λ (goods : ℕ). with_bid n lists (goods_of goods bid)) c.goods-goods.ensures.value) c.loop-number.invariant
