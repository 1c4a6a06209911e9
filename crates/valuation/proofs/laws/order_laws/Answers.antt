-- `order_laws`
use Rattle.valuation.proofs.Common.{rules, atom_cmp_total, atom_cmp_equal, bidder_cmp_total, bidder_cmp_equal}
use Rattle.valuation.proofs.laws.order_laws.Goals as goal

pub returns : goal.returns
returns c = search (rules, atom_cmp_total, atom_cmp_equal, bidder_cmp_total, bidder_cmp_equal)
