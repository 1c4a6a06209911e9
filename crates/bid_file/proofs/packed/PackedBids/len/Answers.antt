-- `PackedBids::len`
use Rattle.std.proofs.lemmas.Grind.{common_steps}
use Rattle.std.proofs.Common.{arith}
use Rattle.bid_file.proofs.packed.PackedBids.len.Goals as goal

pub returns : goal.returns
returns c = grind (arith, common_steps)
