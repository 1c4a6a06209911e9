-- `count_blanks`
use Rattle.rounding.proofs.Common.{◌≡◌, ◌+◌, length, drop, blanks}
use Rattle.rounding.proofs.line.count_blanks.Given as goal

abbrev pub invariant-loop-offset : goal.invariant-loop-offset
invariant-loop-offset l = l.offset + length (blanks (drop l.offset l.line)) ≡ length (blanks l.line)
