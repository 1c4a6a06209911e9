-- `came_in_order`: the arrivals so far.
use Rattle.cats_text.proofs.Common.{◌≡◌, take, arrivals_to}
use Rattle.cats_text.proofs.bids_by_number.came_in_order.Given as goal

abbrev pub invariant-loop-number : goal.invariant-loop-number
invariant-loop-number l = take l.number l.arrivals ≡ arrivals_to l.number
