-- `same_values_same_points`
use Rattle.prune.proofs.Common.{xor_points_same, or_points_same}
use Rattle.prune.proofs.laws.same_values_same_points.Goals as goal

pub returns : goal.returns
returns c = record { xor = xor_points_same; or = or_points_same }
