-- `ListSetGoodsSet::order`
use Rattle.goods_set.proofs.Common.{rules, order_by_key}
use Rattle.goods_set.proofs.list_set.ListSetGoodsSet.order.Goals as goal

pub returns-in_default : goal.returns-in_default
returns-in_default c = search (rules, order_by_key)
