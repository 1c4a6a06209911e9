-- `steps_are_bounded`
use Rattle.prune.proofs.Common.{on_bundles, search_within_packings, search_within_bound}
use Rattle.prune.proofs.laws.steps_are_bounded.Goals as goal

pub returns : goal.returns
returns c = record { cut = search_within_packings; load = λ kind goods atoms are. search_within_bound kind goods atoms (on_bundles goods atoms are) }
