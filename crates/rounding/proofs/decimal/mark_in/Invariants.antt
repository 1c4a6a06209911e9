-- `mark_in`
use Rattle.rounding.proofs.Common.{◌≡◌, ◌+◌, length, drop, significand}
use Rattle.rounding.proofs.decimal.mark_in.Given as goal

abbrev pub invariant-loop-offset : goal.invariant-loop-offset
invariant-loop-offset l = l.offset + length (significand (drop l.offset l.word)) ≡ length (significand l.word)
