-- `same_bids_are_refused_alike`
use Rattle.prune.proofs.Common.{rules, on_bundles, first_refused-same_bids}
use Rattle.prune.proofs.laws.same_bids_are_refused_alike.Goals as goal

pub returns : goal.returns
returns c = search (rules, on_bundles, first_refused-same_bids)
