-- `LongMaskMask::take_out`: writing through the slice leaves the vector with the words of the slice.
use Rattle.goods_set.proofs.Common.{rules}
use Rattle.goods_set.proofs.LongWords.{written_back}
use Rattle.goods_set.proofs.mask.long.LongMaskMask.take_out.Goals as goal

pub returns : goal.returns
returns c = search (rules, written_back)
