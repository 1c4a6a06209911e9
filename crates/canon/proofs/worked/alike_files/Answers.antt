-- `alike_files`
use Rattle.canon.proofs.Common.{rules}
use Rattle.prune.specs.Points.{points_where, is_xor_point, is_or_point}
use Rattle.valuation.specs.Values.{xor_value, or_value}
use Rattle.canon.proofs.worked.alike_files.Goals as goal

pub returns : goal.returns
unfolding points_where is_xor_point is_or_point xor_value or_value
returns c = search rules
