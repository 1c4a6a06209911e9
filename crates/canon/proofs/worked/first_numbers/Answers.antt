-- `first_numbers`
use Rattle.canon.proofs.Common.{refl}
use Rattle.std.specs.Fmt.{digits}
use Rattle.prune.specs.Points.{points_where, is_xor_point, is_or_point}
use Rattle.valuation.specs.Values.{xor_value, or_value}
use Rattle.canon.proofs.worked.first_numbers.Goals as goal

pub returns : goal.returns
unfolding digits points_where is_xor_point is_or_point xor_value or_value
returns c = record { larger_bid_dominated = refl; bidders_in_any_order = refl; equal_bidders_counted = refl; prices_and_goods = refl }
