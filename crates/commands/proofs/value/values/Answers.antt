-- `values`
use Rattle.commands.proofs.Common.{refl}
use Rattle.std.specs.Fmt.{digits}
use Rattle.valuation.specs.Packings.{count_packings}
use Rattle.valuation.specs.ValueLimits.{most_value_steps}
use Rattle.valuation.specs.Values.{or_value, xor_value, chosen_indices}
use Rattle.commands.proofs.value.values.Goals as goal

pub returns : goal.returns
unfolding digits count_packings most_value_steps or_value xor_value chosen_indices
returns c = record {
  best_packing = refl;
  one_good = refl;
  step_limit = refl;
  never_over = refl;
  within = refl;
  over = refl;
  over_all = refl;
  missing = refl;
  both = refl;
  first = refl;
  none_inside = refl;
  bundle = refl;
}
