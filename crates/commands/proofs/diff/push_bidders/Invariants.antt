-- `push_bidders`
use Rattle.commands.proofs.Common.{◌≡◌, ◌++◌, map, take, flat_map, plain_bidder_change, bidder_rows, file_of}
use Rattle.commands.proofs.diff.push_bidders.Given as goal

-- the rows of the bidders so far are appended
abbrev pub invariant-loop-bidder : goal.invariant-loop-bidder
invariant-loop-bidder l = l.text.items ≡ l.initial.text.items ++ flat_map (bidder_rows (file_of l.sides.left) (file_of l.sides.right))
    (map plain_bidder_change (take l.bidder-index l.bidders))
