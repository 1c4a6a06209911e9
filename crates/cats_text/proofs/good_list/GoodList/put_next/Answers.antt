-- `GoodList::put_next`
use Rattle.cats_text.proofs.Common.{◌≤◌, ◌<◌, arith}
use Rattle.cats_text.proofs.Spelling.Marks.{IsListed-push}
use Rattle.cats_text.proofs.good_list.GoodList.put_next.Goals as goal

pub invariant_of-self-2 : goal.invariant_of-self-2
invariant_of-self-2 c =
    let from : c.self.inside.least ≤ c.args.good = omega (arith, c.if-from-self.false, c.from.ensures) in
    let fits : c.args.good < 65536 = c.ranges.good.fits in
    rw (c.in_ok-push.ensures.items, c.from-2.ensures) (IsListed-push c.self.inside.goods.items c.self.inside.marks.items c.self.inside.bid_mark
    c.self.inside.rises c.self.inside.least c.args.good c.self.invariant from fits)
