-- `Scanner::take_blanks`
use Rattle.cats_text.proofs.Common.{◌≡◌, ◌≤◌, ◌+◌, ◌-◌, false, drop, length, state, IsScanned}
use Rattle.cats_text.proofs.scanner.Scanner.take_blanks.Given as goal

abbrev pub invariant-loop-offset : goal.invariant-loop-offset
invariant-loop-offset g l = record {
  scanned : IsScanned (state g.K.Keep.keep l.fn.self) (state g.K.Keep.keep l.self) l.self.waiting l.bytes (drop l.offset l.bytes);
  within : l.offset ≤ length l.bytes;
  line : l.self.line ≤ l.fn.self.line + l.offset;
  waits : l.self.waiting ≡ false;
}

abbrev pub decreases-loop-offset : goal.decreases-loop-offset
decreases-loop-offset g l = length l.bytes - l.offset
