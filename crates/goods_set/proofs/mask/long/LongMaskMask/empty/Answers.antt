-- `LongMaskMask::empty`
use Rattle.goods_set.proofs.Bits.{no_bits}
use Rattle.goods_set.proofs.mask.long.LongMaskMask.empty.Goals as goal

pub returns : goal.returns
returns c = rw c.new.ensures.items (no_bits 0 0)
