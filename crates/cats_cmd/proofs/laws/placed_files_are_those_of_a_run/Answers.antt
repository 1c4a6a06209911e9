-- `placed_files_are_those_of_a_run`
use Rattle.cats_cmd.proofs.PlacingTexts.{files_placed}
use Rattle.cats_cmd.proofs.laws.placed_files_are_those_of_a_run.Goals as goal

pub returns : goal.returns
returns g c source paths places h = files_placed _ paths places h
