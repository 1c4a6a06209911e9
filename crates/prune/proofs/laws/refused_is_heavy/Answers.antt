-- `refused_is_heavy`
use Rattle.prune.proofs.Common.{first_refused-plain}
use Rattle.prune.proofs.laws.refused_is_heavy.Goals as goal

pub returns : goal.returns
returns c = first_refused-plain
