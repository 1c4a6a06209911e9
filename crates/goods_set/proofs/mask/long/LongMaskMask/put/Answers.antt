-- `LongMaskMask::put`
use Rattle.goods_set.proofs.Common.{rules}
use Rattle.goods_set.proofs.LongWords.{with_long_bit}
use Rattle.goods_set.proofs.mask.long.LongMaskMask.put.Goals as goal

pub returns : goal.returns
returns c = search (rules, with_long_bit)
