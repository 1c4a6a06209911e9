-- `points_of_points`
use Rattle.prune.proofs.Common.{rules, on_bundles, just_bundles, xor_points_again, or_points_again}
use Rattle.prune.proofs.laws.points_of_points.Goals as goal

pub returns : goal.returns
returns c = search (rules, xor_points_again, just_bundles, on_bundles, or_points_again)
