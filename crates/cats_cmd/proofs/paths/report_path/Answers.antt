-- `report_path`
use Rattle.cats_cmd.proofs.Common.{codes, turn_text}
use Rattle.cats_cmd.proofs.Gathering.{gathered_sent, gathers_then}
use Rattle.cats_cmd.proofs.paths.report_path.Goals as goal

pub returns : goal.returns
returns g c =
    let turn = c.args.turn.now in
    gathered_sent g.E.Write.contents _ _ _ _ _
    (gathers_then g.E.Write.contents (turn_text turn.number turn.count turn.path.now) (codes "\n") _ _ _ _ _ _
    (rw c.new-line.ensures at c.push_turn.ensures) c.push.ensures)
    c.send.ensures.reports
