-- `show_path`
use Rattle.cats_cmd.proofs.Common.{◌++◌, ℕ, List, codes, turn_text, unwrapped, wrapped}
use Rattle.cats_cmd.proofs.Gathering.{gathered_sent, gathers_then, gathers_three}
use Rattle.cats_cmd.proofs.paths.show_path.Goals as goal

pub returns : goal.returns
returns g c =
    let turn = c.args.turn.now in
    let text : List ℕ = turn_text turn.number turn.count turn.path.now in
    gathered_sent g.E.Write.contents _ _ _ _ _
    (gathers_then g.E.Write.contents (unwrapped ++ text ++ wrapped) (codes "\n") _ _ _ _ _ _
    (gathers_three g.E.Write.contents unwrapped text wrapped _ _ _ _ _ _ _ _
    (rw (c.new-line.ensures, c.as_bytes.ensures.value) at c.push.ensures) c.push_turn.ensures
    (rw c.as_bytes-2.ensures.value at c.push-2.ensures))
    c.push-3.ensures)
    c.send.ensures.reports
