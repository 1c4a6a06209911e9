-- `Scanner::scan`
use Rattle.cats_text.proofs.Common.{◌≤◌, ◌+◌, ◌-◌, drop, length, state, IsScanned}
use Rattle.cats_text.proofs.scanner.Scanner.scan.Given as goal

abbrev pub invariant-loop-offset : goal.invariant-loop-offset
invariant-loop-offset g l = IsScanned (state g.K.Keep.keep l.fn.self) (state g.K.Keep.keep l.self) l.self.waiting l.bytes (drop l.offset l.bytes)
    × (l.self.line ≤ l.fn.self.line + l.offset)
    × (l.offset ≤ length l.bytes)

abbrev pub decreases-loop-offset : goal.decreases-loop-offset
decreases-loop-offset g l = length l.bytes - l.offset
