-- `rest_after`
use Rattle.rounding.proofs.Common.{◌≡◌, take, fold, rest_with}
use Rattle.rounding.proofs.digits.rest_after.Given as goal

abbrev pub invariant-loop-digit : goal.invariant-loop-digit
invariant-loop-digit l = l.rest ≡ fold rest_with l.fn.start (take l.digit-index l.digits)
