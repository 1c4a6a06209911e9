-- `raised_number`
use Rattle.rounding.proofs.Common.{◌≡◌, ◌*◌, ◌^◌, suc, min, MAX_PRICE}
use Rattle.rounding.proofs.value.raised_number.Given as goal

abbrev pub invariant-loop : goal.invariant-loop
invariant-loop l = l.held ≡ min (suc MAX_PRICE) (l.number * 10 ^ l.counter)
