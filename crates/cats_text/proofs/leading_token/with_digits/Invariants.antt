-- `with_digits`
use Rattle.cats_text.proofs.Common.{IsNumberSoFar}
use Rattle.cats_text.proofs.leading_token.with_digits.Given as goal

abbrev pub invariant-loop-count : goal.invariant-loop-count
invariant-loop-count l = IsNumberSoFar l.fn.value l.bytes l.count l.value
