-- `sorting_laws`
use Rattle.valuation.proofs.Common.{rules, bidder_cmp_total, bidder_cmp_equal, permutation-sort_by, sorted-sort_by, sorted_same}
use Rattle.valuation.proofs.laws.sorting_laws.Goals as goal

pub returns : goal.returns
returns c = search (rules, permutation-sort_by, sorted-sort_by, bidder_cmp_total, sorted_same, bidder_cmp_equal)
