-- `all_apart`
use Rattle.goods_set.proofs.Common.{◌≡◌, ℕ, ◌-◌, ◌<◌, ◌≤◌, length, get_or, bit_and}
use Rattle.goods_set.proofs.word_set.lanes.all_apart.Given as goal

abbrev pub invariant-loop-i : goal.invariant-loop-i
invariant-loop-i l = record { within : l.i ≤ length l.one; none : (k : ℕ) → k < l.i → bit_and (get_or l.one k 0) (get_or l.other k 0) ≡ 0 }

abbrev pub decreases-loop-i : goal.decreases-loop-i
decreases-loop-i l = length l.one - l.i

abbrev pub invariant-loop-k : goal.invariant-loop-k
invariant-loop-k l = (k : ℕ) → k < l.k → bit_and (get_or l.one k 0) (get_or l.other k 0) ≡ 0
