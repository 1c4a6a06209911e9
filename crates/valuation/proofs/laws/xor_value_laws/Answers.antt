-- `xor_value_laws`
use Rattle.valuation.proofs.Common.{xor_value-grows, xor_value-permutation}
use Rattle.valuation.proofs.laws.xor_value_laws.Goals as goal

pub returns : goal.returns
returns c = record { grows = xor_value-grows; any_order = xor_value-permutation }
