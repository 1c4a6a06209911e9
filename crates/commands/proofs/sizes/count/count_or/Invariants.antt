-- `count_or`
use Rattle.commands.proofs.Common.{◌≡◌, ◌≤◌, length, filter, take, is_none}
use Rattle.commands.proofs.sizes.count.count_or.Given as goal

-- the bids so far are counted
abbrev pub invariant-loop-number : goal.invariant-loop-number
invariant-loop-number l = (l.count ≡ length (filter (λ b. is_none b.dummy) (take l.number l.file.bids))) × (l.count ≤ l.number)
