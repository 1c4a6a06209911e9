-- `canonical_file_has_the_greatest_revenue`
use Rattle.analysis.proofs.Allocating.Winning.{greatest_is_canonical, greatest_is_same}
use Rattle.analysis.proofs.laws.canonical_file_has_the_greatest_revenue.Goals as goal

pub returns : goal.returns
returns c = record { canonical = greatest_is_canonical; same = greatest_is_same }
