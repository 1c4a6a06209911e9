-- `point_in`
use Rattle.rounding.proofs.Common.{◌≡◌, ◌+◌, length, drop, whole_part}
use Rattle.rounding.proofs.decimal.point_in.Given as goal

abbrev pub invariant-loop-offset : goal.invariant-loop-offset
invariant-loop-offset l = l.offset + length (whole_part (drop l.offset l.word)) ≡ length (whole_part l.word)
