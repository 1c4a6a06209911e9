-- `report_refusal`
use Rattle.cats_cmd.proofs.Common.{codes, escaped, line_of_fault}
use Rattle.cats_cmd.proofs.Gathering.{gathered_sent, gathers_three}
use Rattle.cats_cmd.proofs.paths.report_refusal.Goals as goal

pub returns : goal.returns
returns g c =
    gathered_sent g.E.Write.contents _ _ _ _ _
    (gathers_three g.E.Write.contents (escaped c.args.path.now) (codes ": ") (line_of_fault c.args.fault.now) _ _ _ _ _ _ _ _
    (rw c.new-line.ensures at c.push_escaped.ensures) c.push.ensures (rw c.fault_pieces.ensures at c.push_pieces.ensures))
    c.send.ensures.reports
