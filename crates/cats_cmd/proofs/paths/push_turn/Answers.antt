-- `push_turn`
use Rattle.cats_cmd.proofs.Common.{◌++◌, ℕ, List, codes, decimal, escaped}
use Rattle.cats_cmd.proofs.Gathering.{gathers_three}
use Rattle.cats_cmd.proofs.paths.push_turn.Goals as goal

pub returns : goal.returns
returns g c =
    let turn = c.args.turn.now in
    let numbers : List ℕ = decimal turn.number ++ codes " of " ++ decimal turn.count in
    gathers_three g.E.Write.contents numbers (codes " ") (escaped turn.path.now) _ _ _ _ _ _ _ _
    (gathers_three g.E.Write.contents (decimal turn.number) (codes " of ") (decimal turn.count) _ _ _ _ _ _ _ _ c.push_number.ensures c.push.ensures
    c.push_number-2.ensures)
    c.push-2.ensures c.push_escaped.ensures
