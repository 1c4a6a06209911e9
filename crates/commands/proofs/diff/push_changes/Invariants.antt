-- `push_changes`
use Rattle.commands.proofs.Common.{◌≡◌, ◌++◌, map, take, flat_map, plain_change, change_row, file_of}
use Rattle.commands.proofs.diff.push_changes.Given as goal

-- the rows of the changes so far are appended
abbrev pub invariant-loop-change : goal.invariant-loop-change
invariant-loop-change l = l.text.items ≡ l.initial.text.items ++ flat_map (change_row l.bidder.kind.now (file_of l.sides.left) (file_of l.sides.right)
    l.bidder.left l.bidder.right) (map plain_change (take l.change-index l.changes))
