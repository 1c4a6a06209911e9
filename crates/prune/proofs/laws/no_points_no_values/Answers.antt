-- `no_points_no_values`
use Rattle.prune.proofs.Common.{rules, on_bundles, no_xor_points, no_or_points}
use Rattle.prune.proofs.laws.no_points_no_values.Goals as goal

pub returns : goal.returns
returns c = search (rules, no_xor_points, on_bundles, no_or_points)
