-- `letters`
use Rattle.cats_text.proofs.Common.{AllByRecursion, IsLetter, take}
use Rattle.cats_text.proofs.leading_token.letters.Given as goal

abbrev pub invariant-loop-count : goal.invariant-loop-count
invariant-loop-count l = AllByRecursion IsLetter (take l.count l.bytes)
