-- `table_paths_are_read_back`
use Rattle.cats_cmd.proofs.OutputPaths.{table_back}
use Rattle.cats_cmd.proofs.laws.table_paths_are_read_back.Goals as goal

pub returns : goal.returns
returns c = table_back
