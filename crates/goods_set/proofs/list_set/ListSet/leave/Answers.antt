-- `ListSet::leave`
use Rattle.goods_set.proofs.Common.{rules, not, filter_same, has_good}
use Rattle.goods_set.proofs.list_set.ListSet.leave.Goals.{in-Few, in-Many}
use Rattle.goods_set.proofs.list_set.ListSet.leave.Goals as goal

pub returns : goal.returns
returns c =
    elim c.match-goods.branch [
      | in-Few w ↦ rw (w.goods-inside-is, ← c.goods.view_is) (search rules)
      | in-Many w ↦
          let e = filter_same _ (λ x. not (has_good c.args.self.now.goods x)) _ (λ x b f k. search rules) _ _ w.retain.ensures.filtered in
          rw (w.goods-inside-is, ← c.goods.view_is, w.in-Many.is) e
    ]
