-- `digits_alone`
use Rattle.rounding.proofs.Common.{◌≡◌, true, take, digits_alone}
use Rattle.rounding.proofs.digits.digits_alone.Given as goal

abbrev pub invariant-loop-byte : goal.invariant-loop-byte
invariant-loop-byte l = digits_alone (take l.byte-index l.word) ≡ true
