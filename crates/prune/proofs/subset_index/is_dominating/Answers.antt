-- `is_dominating`
use Rattle.prune.proofs.Common.{rules, both_ways, false_from_ne_true, and_left, le-leb, lt-leb, get_or-atoms_of, length-atoms_of}
use Rattle.prune.proofs.ListedAtoms.{not_inside}
use Rattle.prune.proofs.subset_index.is_dominating.Goals as goal

pub returns-then-not-may_be_subset : goal.returns-then-not-may_be_subset
returns-then-not-may_be_subset g c = search (rules, not_inside, false_from_ne_true, both_ways)

pub returns-then-price-atom : goal.returns-then-price-atom
returns-then-price-atom g c = search (rules, length-atoms_of, get_or-atoms_of, le-leb)

pub returns-else-price-atom : goal.returns-else-price-atom
returns-else-price-atom g c = search (rules, length-atoms_of, get_or-atoms_of, lt-leb, and_left)
