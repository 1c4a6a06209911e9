-- `report_progress`
use Rattle.cats_cmd.proofs.Common.{refl}
use Rattle.cats_cmd.proofs.paths.report_progress.Goals as goal

pub returns-in-Lines : goal.returns-in-Lines
returns-in-Lines g c = rw c.in-Lines.is (c.report_path.new.err, c.report_path.ensures, refl)

pub returns-in-Terminal : goal.returns-in-Terminal
returns-in-Terminal g c = rw c.in-Terminal.is (c.show_path.new.err, c.show_path.ensures, refl)
