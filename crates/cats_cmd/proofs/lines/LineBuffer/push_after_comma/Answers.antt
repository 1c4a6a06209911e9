-- `LineBuffer::push_after_comma`
use Rattle.cats_cmd.proofs.Common.{[], ◌∷◌, decimal}
use Rattle.cats_cmd.proofs.Gathering.{gathers_then}
use Rattle.cats_cmd.proofs.lines.LineBuffer.push_after_comma.Goals as goal

pub returns : goal.returns
returns g c =
    gathers_then g.E.Write.contents (44 ∷ []) (decimal c.args.good) _ _ _ _ _ _ c.push.ensures (rw c.from.ensures at c.push_number.ensures)
