-- `Scanner::take_goods`
use Rattle.cats_text.proofs.Common.{◌≡◌, ◌≤◌, ◌-◌, false, drop, length, state, IsGoodDue, IsScanned}
use Rattle.cats_text.proofs.scanner.Scanner.take_goods.Given as goal

abbrev pub invariant-loop-good : goal.invariant-loop-good
invariant-loop-good g l = record {
  scanned : IsScanned (state g.K.Keep.keep l.fn.self) (state g.K.Keep.keep l.self) l.self.waiting l.bytes (drop l.offset l.bytes);
  due : IsGoodDue (state g.K.Keep.keep l.self);
  within : l.offset ≤ length l.bytes;
  line : l.self.line ≡ l.fn.self.line;
  waits : l.self.waiting ≡ false;
}

abbrev pub decreases-loop-good : goal.decreases-loop-good
decreases-loop-good g l = length l.bytes - l.offset
