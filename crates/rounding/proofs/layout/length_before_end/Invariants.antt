-- `length_before_end`
use Rattle.rounding.proofs.Common.{◌≡◌, ◌+◌, length, drop}
use Rattle.rounding.specs.Layouts.{before_end}
use Rattle.rounding.proofs.layout.length_before_end.Given as goal

abbrev pub invariant-loop-offset : goal.invariant-loop-offset
invariant-loop-offset l = l.offset + length (before_end (drop l.offset l.line)) ≡ length (before_end l.line)
