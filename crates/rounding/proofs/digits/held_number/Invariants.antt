-- `held_number`
use Rattle.rounding.proofs.Common.{◌≡◌, ◌+◌, ◌*◌, ◌-◌, min, take, fold}
use Rattle.rounding.proofs.digits.held_number.Given as goal

abbrev pub invariant-loop-digit : goal.invariant-loop-digit
invariant-loop-digit l = l.held ≡ min l.bound (fold (λ n b. 10 * n + (b - 48)) l.fn.start (take l.digit-index l.digits))
