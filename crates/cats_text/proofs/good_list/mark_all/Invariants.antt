-- `mark_all`: the goods so far are marked, and each has its mark.
use Rattle.cats_text.proofs.Common.{ℕ, ◌<◌, length, take, get_or, vec_len, IsMarked}
use Rattle.cats_text.proofs.good_list.mark_all.Given as goal

abbrev pub invariant-loop-good : goal.invariant-loop-good
invariant-loop-good l = record {
  marked : IsMarked (take l.good-index l.goods) l.marks.items l.bid_mark;
  space : (k : ℕ) → k < length l.goods → get_or l.goods k 0 < vec_len l.marks;
}
