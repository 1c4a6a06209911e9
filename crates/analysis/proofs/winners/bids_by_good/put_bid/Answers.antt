-- `put_bid`
use Rattle.analysis.proofs.Common.{arith, length, take, seen_bid}
use Rattle.analysis.proofs.Allocating.ByGood.{dummy_within, good_within, same_length}
use Rattle.analysis.proofs.winners.bids_by_good.put_bid.Goals as goal

pub put_number-requires : goal.put_number-requires
put_number-requires c =
    let i = c.loop-good.good-index in
    let lists = c.args.lists.now.items in
    let long = same_length c.args.number lists c.loop-good.lists.items (take i c.args.bid.now.goods.now) c.loop-good.invariant in
    let l = good_within c.args.goods (length lists) i (seen_bid c.args.bid.now) c.requires c.loop-good-test.true in
    omega (arith, long, l, c.from.ensures)

pub put_number-requires-in-Some : goal.put_number-requires-in-Some
put_number-requires-in-Some c =
    let i = c.loop-good.good-index in
    let lists = c.args.lists.now.items in
    let long = same_length c.args.number lists c.loop-good.lists.items (take i c.args.bid.now.goods.now) c.loop-good.invariant in
    let l = dummy_within c.args.goods (length lists) c.in-Some.dummy (seen_bid c.args.bid.now) c.requires c.in-Some.is in
    omega (arith, long, l)
