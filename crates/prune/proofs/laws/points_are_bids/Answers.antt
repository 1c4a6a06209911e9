-- `points_are_bids`
use Rattle.prune.proofs.Common.{rules, on_bundles, just_bundles, xor_points_are_atoms, or_points_are_atoms}
use Rattle.prune.proofs.laws.points_are_bids.Goals as goal

pub returns : goal.returns
returns c = search (rules, xor_points_are_atoms, just_bundles, on_bundles, or_points_are_atoms)
