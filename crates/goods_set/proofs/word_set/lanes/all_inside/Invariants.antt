-- `all_inside`
use Rattle.goods_set.proofs.Common.{◌≡◌, ℕ, ◌-◌, ◌<◌, ◌≤◌, length, get_or, w64, bit_not, bit_and}
use Rattle.goods_set.proofs.word_set.lanes.all_inside.Given as goal

abbrev pub invariant-loop-i : goal.invariant-loop-i
invariant-loop-i l = record { within : l.i ≤ length l.inner; none : (k : ℕ) → k < l.i → bit_and (get_or l.inner k 0) (bit_not w64 (get_or l.outer k 0)) ≡ 0 }

abbrev pub decreases-loop-i : goal.decreases-loop-i
decreases-loop-i l = length l.inner - l.i

abbrev pub invariant-loop-k : goal.invariant-loop-k
invariant-loop-k l = (k : ℕ) → k < l.k → bit_and (get_or l.inner k 0) (bit_not w64 (get_or l.outer k 0)) ≡ 0
