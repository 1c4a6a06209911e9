-- `is_inside`
use Rattle.prune.proofs.Common.{rules, both_ways, false_from_ne_true}
use Rattle.prune.proofs.subset_index.is_inside.Goals as goal

pub returns-then-not-may_be_subset : goal.returns-then-not-may_be_subset
returns-then-not-may_be_subset g c = search (rules, false_from_ne_true, both_ways)
