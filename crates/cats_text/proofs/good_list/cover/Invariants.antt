-- `cover`
use Rattle.cats_text.proofs.Common.{◌≡◌, ℕ, ◌+◌, ◌-◌, get_or, vec_len}
use Rattle.cats_text.proofs.good_list.cover.Given as goal

abbrev pub invariant-loop-marks : goal.invariant-loop-marks
invariant-loop-marks l = (k : ℕ) → get_or l.marks.items k 0 ≡ get_or l.fn.marks.items k 0

abbrev pub decreases-loop-marks : goal.decreases-loop-marks
decreases-loop-marks l = l.index + 1 - vec_len l.marks
