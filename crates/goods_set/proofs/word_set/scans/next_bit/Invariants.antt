-- `next_bit`
use Rattle.goods_set.proofs.Common.{◌-◌, ◌<◌, length}
use Rattle.goods_set.proofs.Scans.{IsScan}
use Rattle.goods_set.proofs.word_set.scans.next_bit.Given as goal

abbrev pub invariant-loop-rest : goal.invariant-loop-rest
invariant-loop-rest l = record { within : l.index < length l.words; scan : IsScan l.words l.from l.index l.rest }

abbrev pub decreases-loop-rest : goal.decreases-loop-rest
decreases-loop-rest l = length l.words - l.index
