-- `without_zeros`
use Rattle.cats_text.proofs.Common.{◌≡◌, ◌<◌, ◌≤◌, decimal, without_zeros}
use Rattle.cats_text.proofs.price.without_zeros.Given as goal

abbrev pub invariant-loop-left : goal.invariant-loop-left
invariant-loop-left l = (0 < l.left) × (l.left ≤ l.number) × (without_zeros (decimal l.left) ≡ without_zeros (decimal l.number))

abbrev pub decreases-loop-left : goal.decreases-loop-left
decreases-loop-left l = l.left
