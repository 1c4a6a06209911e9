-- `same_tables_same_points`
use Rattle.prune.proofs.Common.{rules, on_bundles, same_xor_points, same_or_points}
use Rattle.prune.proofs.laws.same_tables_same_points.Goals as goal

pub returns : goal.returns
returns c = search (rules, same_xor_points, on_bundles, same_or_points)
