-- `ListSetGoodsSet::empty`
use Rattle.goods_set.proofs.Common.{common_steps, arith}
use Rattle.goods_set.proofs.list_set.ListSetGoodsSet.empty.Goals as goal

pub returns-clause-goods : goal.returns-clause-goods
returns-clause-goods c = grind (arith, common_steps)
