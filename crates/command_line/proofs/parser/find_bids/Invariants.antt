-- `find_bids`
use Rattle.command_line.proofs.Common.{◌≡◌, take}
use Rattle.command_line.proofs.parser.find_bids.Given as goal

-- the bids so far are the numbers so far
abbrev pub invariant-loop-number : goal.invariant-loop-number
invariant-loop-number l = l.bids.items ≡ take l.number-index l.number-items
