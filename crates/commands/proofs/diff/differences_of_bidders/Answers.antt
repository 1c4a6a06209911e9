-- `differences_of_bidders`
use Rattle.commands.proofs.Common.{refl}
use Rattle.std.specs.Fmt.{digits}
use Rattle.valuation.specs.Values.{or_value, xor_value}
use Rattle.prune.specs.Points.{points_where, is_or_point, is_xor_point}
use Rattle.commands.proofs.diff.differences_of_bidders.Goals as goal

pub returns : goal.returns
unfolding digits points_where is_or_point is_xor_point or_value xor_value
returns c = record { beside = refl; alone = refl }
