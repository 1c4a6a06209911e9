-- `report_if_refused`
use Rattle.cats_cmd.proofs.Common.{refl}
use Rattle.cats_cmd.proofs.paths.report_if_refused.Goals as goal

pub returns-in-Some : goal.returns-in-Some
returns-in-Some g c = rw c.in-Some.is (c.report_refusal.new.err, c.report_refusal.ensures, refl)
