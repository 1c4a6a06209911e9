-- `or_value_laws`
use Rattle.valuation.proofs.Common.{rules, or_value-grows, or_value-permutation, or_value-parts, or_value-dominated}
use Rattle.valuation.proofs.laws.or_value_laws.Goals as goal

pub returns : goal.returns
returns c = search (rules, or_value-grows, or_value-permutation, or_value-parts, or_value-dominated)
