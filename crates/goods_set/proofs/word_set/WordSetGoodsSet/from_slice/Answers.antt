-- `WordSetGoodsSet::from_slice`: the set has the goods so far: one more good is below the cap, so its word is there, and its bit puts it.
use Rattle.goods_set.proofs.Common.{rules, length-set, length-replicate, with_good-take, below_at}
use Rattle.goods_set.proofs.Common.{word_cap}
use Rattle.goods_set.proofs.Bits.{no_bits, with_bit}
use Rattle.goods_set.proofs.word_set.WordSetGoodsSet.from_slice.Goals as goal

pub loop-good-init : goal.loop-good-init
loop-good-init g c = record { goods = no_bits (word_cap g.row.N) g.row.N; long = length-replicate g.row.N 0 }

pub bounds-set-index : goal.bounds-set-index
bounds-set-index g c = search (rules, below_at)

pub bounds-set-index-in-loop-good : goal.bounds-set-index-in-loop-good
bounds-set-index-in-loop-good g c = search (rules, below_at)

pub loop-good-preserved : goal.loop-good-preserved
loop-good-preserved g c = search (rules, below_at, with_bit, with_good-take, length-set)
