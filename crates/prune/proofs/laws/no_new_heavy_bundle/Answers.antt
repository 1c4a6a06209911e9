-- `no_new_heavy_bundle`
use Rattle.prune.proofs.Common.{rules, on_bundles, search_steps-point, no_new_heavy}
use Rattle.prune.proofs.laws.no_new_heavy_bundle.Goals as goal

pub returns : goal.returns
returns c = search (rules, search_steps-point, on_bundles, no_new_heavy)
