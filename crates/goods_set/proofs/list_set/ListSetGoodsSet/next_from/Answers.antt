-- `ListSetGoodsSet::next_from`
use Rattle.goods_set.proofs.Common.{rules}
use Rattle.goods_set.proofs.Places.{next_at, got}
use Rattle.goods_set.proofs.list_set.ListSetGoodsSet.next_from.Goals as goal

pub returns : goal.returns
returns c = search (rules, got, next_at)
