-- `count_marks`
use Rattle.commands.proofs.Common.{◌≡◌, ◌≤◌, length, filter, take}
use Rattle.commands.proofs.sizes.count.count_marks.Given as goal

-- the marks so far are counted
abbrev pub invariant-loop-mark : goal.invariant-loop-mark
invariant-loop-mark l = (l.count ≡ length (filter (λ m. m) (take l.mark-index l.marks))) × (l.count ≤ l.mark-index)
