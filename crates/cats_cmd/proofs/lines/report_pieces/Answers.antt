-- `report_pieces`
use Rattle.cats_cmd.proofs.Gathering.{gathered_sent}
use Rattle.cats_cmd.proofs.lines.report_pieces.Goals as goal

pub returns : goal.returns
returns g c = gathered_sent g.E.Write.contents _ _ _ _ _ (rw c.new-line.ensures at c.push_pieces.ensures) c.send.ensures.reports
