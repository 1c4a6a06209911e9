-- `numbers_at`: the numbers at the first indices are there.
use Rattle.analysis.proofs.Common.{◌≡◌, take, numbers_at}
use Rattle.analysis.proofs.reasons.walk.numbers_at.Given as goal

abbrev pub invariant-loop-index : goal.invariant-loop-index
invariant-loop-index l = l.found.items ≡ numbers_at l.numbers (take l.index-index l.indices)
