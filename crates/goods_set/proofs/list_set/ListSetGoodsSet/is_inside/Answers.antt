-- `ListSetGoodsSet::is_inside`
use Rattle.goods_set.proofs.Common.{Decides-eqb, slice_eq-Decides, inside_not_larger}
use Rattle.goods_set.proofs.list_set.ListSetGoodsSet.is_inside.Goals as goal

pub returns-then-own-others : goal.returns-then-own-others
returns-then-own-others c =
    let own = c.args.self.now in
    let others = c.args.other.now in
    inside_not_larger own.goods others.goods c.eq.result own.bundle.0 others.bundle.0
    (rw (← c.as_slice-own.ensures, ← c.as_slice-others.ensures) c.if-own-others.true)
    (rw (← c.as_slice-own.ensures, ← c.as_slice-others.ensures) (slice_eq-Decides Decides-eqb _ _ c.eq.result c.eq.ensures))
