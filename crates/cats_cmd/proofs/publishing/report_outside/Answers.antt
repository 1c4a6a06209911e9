-- `report_outside`
use Rattle.cats_cmd.proofs.Common.{codes, escaped}
use Rattle.cats_cmd.proofs.Gathering.{gathered_sent, gathers_then}
use Rattle.cats_cmd.proofs.publishing.report_outside.Goals as goal

pub returns : goal.returns
returns g c =
    gathered_sent g.E.Write.contents _ _ _ _ _
    (gathers_then g.E.Write.contents (escaped c.args.file.now) (codes ": cannot write: its text would not be below the folder\n") _ _ _ _ _ _
    (rw c.new-line.ensures at c.push_escaped.ensures) c.push.ensures)
    c.send.ensures.reports
