-- `PackedFile::to_file`
use Rattle.std.proofs.Common.{◌≡◌, take}
use Rattle.bid_file.specs.Files.{plain_bids}
use Rattle.bid_file.proofs.packed.PackedFile.to_file.Given as goal

-- the bids so far are there
abbrev pub invariant-loop-number : goal.invariant-loop-number
invariant-loop-number l = plain_bids l.bids.items ≡ take l.number l.self.bids
