-- `points_are`
use Rattle.prune.proofs.Common.{xor_points_are, or_points_are}
use Rattle.prune.proofs.laws.points_are.Goals as goal

pub returns : goal.returns
returns c = record { xor = xor_points_are; or = or_points_are }
