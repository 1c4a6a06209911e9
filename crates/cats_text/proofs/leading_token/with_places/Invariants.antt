-- `with_places`
use Rattle.cats_text.proofs.Scanning.ManyBytes.{IsDecimalSoFar}
use Rattle.cats_text.proofs.leading_token.with_places.Given as goal

abbrev pub invariant-loop-count : goal.invariant-loop-count
invariant-loop-count l = IsDecimalSoFar l.fn.decimal l.bytes l.count l.decimal
