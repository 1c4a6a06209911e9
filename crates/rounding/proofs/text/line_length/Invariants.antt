-- `line_length`
use Rattle.rounding.proofs.Common.{◌≡◌, ◌+◌, length, drop, first_line}
use Rattle.rounding.proofs.text.line_length.Given as goal

abbrev pub invariant-loop-offset : goal.invariant-loop-offset
invariant-loop-offset l = l.offset + length (first_line (drop l.offset l.text)) ≡ length (first_line l.text)
