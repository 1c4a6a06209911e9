-- `index_in`
use Rattle.std.specs.Prelude.{◌≡◌, ◌+◌, length}
use Rattle.commands.specs.Columns.{bytes_before}
use Rattle.commands.proofs.fault.column.index_in.Given as goal

-- the bytes so far, and those that are still before the word
abbrev pub invariant-loop-rest : goal.invariant-loop-rest
invariant-loop-rest l = record {
  same : l.index + bytes_before l.left l.rest ≡ bytes_before l.words l.line;
  count : l.index + length l.rest ≡ length l.line;
}

abbrev pub decreases-loop-rest : goal.decreases-loop-rest
decreases-loop-rest l = length l.rest
