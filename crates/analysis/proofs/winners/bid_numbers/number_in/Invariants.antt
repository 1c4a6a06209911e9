-- `number_in`
use Rattle.analysis.proofs.Common.{◌≡◌, min, take, true, number_of, digits_alone}
use Rattle.analysis.proofs.winners.bid_numbers.number_in.Given as goal

-- the bytes so far are digits, and their number is held at the bound
abbrev pub invariant-loop-byte : goal.invariant-loop-byte
invariant-loop-byte l = record {
  alone : digits_alone (take l.byte-index l.word) ≡ true;
  held : l.number ≡ min 4294967296 (number_of (take l.byte-index l.word));
}
