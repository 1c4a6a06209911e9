-- `points_keep_values`
use Rattle.prune.proofs.Common.{rules, on_bundles, just_bundles, xor_points_keep_values, or_points_keep_values}
use Rattle.prune.proofs.laws.points_keep_values.Goals as goal

pub returns : goal.returns
returns c = search (rules, xor_points_keep_values, just_bundles, on_bundles, or_points_keep_values)
