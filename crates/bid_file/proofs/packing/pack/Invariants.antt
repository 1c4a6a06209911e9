-- `pack`
use Rattle.std.proofs.Common.{◌≡◌, take}
use Rattle.bid_file.proofs.packing.pack.Given as goal

-- the bids so far are there
abbrev pub invariant-loop-number : goal.invariant-loop-number
invariant-loop-number g l = l.bids ≡ take l.number (g.B.Bids.file l.file).bids
