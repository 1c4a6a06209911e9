-- `differences_exchanged`
use Rattle.canon.proofs.TwoFiles.Differences.{differences_swap}
use Rattle.canon.proofs.laws.differences_exchanged.Goals as goal

pub returns : goal.returns
returns c = differences_swap
