-- `word_length`
use Rattle.rounding.proofs.Common.{◌≡◌, ◌+◌, length, drop, leading_word}
use Rattle.rounding.proofs.line.word_length.Given as goal

abbrev pub invariant-loop-offset : goal.invariant-loop-offset
invariant-loop-offset l = l.offset + length (leading_word (drop l.offset l.line)) ≡ length (leading_word l.line)
