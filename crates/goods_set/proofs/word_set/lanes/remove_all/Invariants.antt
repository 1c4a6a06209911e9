-- `remove_all`
use Rattle.goods_set.proofs.Common.{◌≡◌, ℕ, ◌-◌, ◌<◌, ◌≤◌, length, get_or, w64, bit_not, bit_and}
use Rattle.goods_set.proofs.word_set.lanes.remove_all.Given as goal

abbrev pub invariant-loop-words : goal.invariant-loop-words
invariant-loop-words l = record {
  within : l.i ≤ length l.words;
  done : (k : ℕ) → k < l.i → get_or l.words k 0 ≡ bit_and (get_or l.fn.words k 0) (bit_not w64 (get_or l.taken k 0));
  rest : (k : ℕ) → l.i ≤ k → get_or l.words k 0 ≡ get_or l.fn.words k 0;
}

abbrev pub decreases-loop-words : goal.decreases-loop-words
decreases-loop-words l = length l.words - l.i

abbrev pub invariant-loop-k : goal.invariant-loop-k
invariant-loop-k l = record {
  done : (k : ℕ) → k < l.k → get_or l.words k 0 ≡ bit_and (get_or l.fn.words k 0) (bit_not w64 (get_or l.taken k 0));
  rest : (k : ℕ) → l.k ≤ k → get_or l.words k 0 ≡ get_or l.fn.words k 0;
}
