-- `groups_are_read_back`
use Rattle.cats_cmd.proofs.OutputPaths.{duplicates_back}
use Rattle.cats_cmd.proofs.laws.groups_are_read_back.Goals as goal

pub returns : goal.returns
returns c = duplicates_back
