-- `ListSetGoodsSet::take_out`
use Rattle.goods_set.proofs.Common.{rules, IsBundle-without}
use Rattle.goods_set.proofs.list_set.ListSetGoodsSet.take_out.Goals as goal

pub invariant_of-self : goal.invariant_of-self
invariant_of-self c = search (rules, IsBundle-without)
