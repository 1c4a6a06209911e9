-- `mark_dummies`
use Rattle.commands.proofs.Common.{◌≡◌, map, take, range_with_len, has_dummy}
use Rattle.commands.proofs.sizes.count.mark_dummies.Given as goal

-- the dummy goods of the bids so far are marked
abbrev pub invariant-loop-number : goal.invariant-loop-number
invariant-loop-number l = l.marks.items ≡ map (has_dummy (take l.number l.file.bids)) (range_with_len 0 l.file.dummy)
