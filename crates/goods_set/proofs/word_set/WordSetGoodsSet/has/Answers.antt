-- `WordSetGoodsSet::has`
use Rattle.goods_set.proofs.Common.{rules, le-ltb, word_goods_past}
use Rattle.goods_set.proofs.Bits.{tested_shifted}
use Rattle.goods_set.proofs.word_set.WordSetGoodsSet.has.Goals as goal

pub returns-then-index : goal.returns-then-index
returns-then-index g c = search (rules, tested_shifted)

pub returns-else-index : goal.returns-else-index
returns-else-index g c = search (rules, le-ltb, word_goods_past)
