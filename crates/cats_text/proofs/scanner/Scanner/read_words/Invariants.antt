-- `Scanner::read_words`
use Rattle.cats_text.proofs.Common.{◌≡◌, ◌≤◌, ◌-◌, true, false, drop, length, state, is_before_word, IsScanned}
use Rattle.cats_text.proofs.scanner.Scanner.read_words.Given as goal

abbrev pub invariant-loop-word : goal.invariant-loop-word
invariant-loop-word g l = record {
  scanned : IsScanned (state g.K.Keep.keep l.fn.self) (state g.K.Keep.keep l.self) l.self.waiting l.bytes (drop l.offset l.bytes);
  before : is_before_word l.self.mode ≡ true;
  within : l.offset ≤ length l.bytes;
  line : l.self.line ≡ l.fn.self.line;
  waits : l.self.waiting ≡ false;
}

abbrev pub decreases-loop-word : goal.decreases-loop-word
decreases-loop-word g l = length l.bytes - l.offset
