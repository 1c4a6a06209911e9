-- `report_collision`
use Rattle.cats_cmd.proofs.Common.{◌++◌, codes, escaped}
use Rattle.cats_cmd.proofs.Gathering.{gathered_sent, gathers_three, gathers_then}
use Rattle.cats_cmd.proofs.publishing.report_collision.Goals as goal

pub returns : goal.returns
returns g c =
    gathered_sent g.E.Write.contents _ _ _ _ _
    (gathers_then g.E.Write.contents
    (escaped c.args.second.now ++ codes ": cannot write: its text would be at or below that of " ++ escaped c.args.first.now) (codes "\n") _ _ _ _ _ _
    (gathers_three g.E.Write.contents (escaped c.args.second.now) (codes ": cannot write: its text would be at or below that of ")
    (escaped c.args.first.now) _ _ _ _ _ _ _ _ (rw c.new-line.ensures at c.push_escaped.ensures) c.push.ensures c.push_escaped-2.ensures)
    c.push-2.ensures)
    c.send.ensures.reports
