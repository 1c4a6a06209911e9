-- `has_place`
use Rattle.rounding.proofs.Common.{◌≡◌, false, not, eqb, take, list_any}
use Rattle.rounding.proofs.digits.has_place.Given as goal

abbrev pub invariant-loop-digit : goal.invariant-loop-digit
invariant-loop-digit l = list_any (λ b. not (eqb b 48)) (take l.digit-index l.digits) ≡ false
