-- `remove_progress`
use Rattle.cats_cmd.proofs.Common.{refl}
use Rattle.cats_cmd.proofs.paths.remove_progress.Goals as goal

pub returns-in-Terminal : goal.returns-in-Terminal
returns-in-Terminal g c = rw c.in-Terminal.is (_, rw c.as_bytes.ensures.value at c.report.ensures, refl)
