-- `write_text`
use Rattle.cats_cmd.proofs.Common.{inr, refl}
use Rattle.cats_cmd.proofs.Storing.{not_utf8_below}
use Rattle.cats_cmd.proofs.publish.write_text.Goals as goal

pub returns-in-Err-clause-writes : goal.returns-in-Err-clause-writes
returns-in-Err-clause-writes g c =
    (inr (refl, not_utf8_below c.args.folder.now c.args.path.now c.utf8.folder c.in-Err.ensures.cases.0), refl)
