-- `LineBuffer::push_goods`
use Rattle.cats_cmd.proofs.Common.{rules, ◌≡◌, ◌∷◌, decimal, after_commas}
use Rattle.cats_cmd.proofs.Gathering.{gathers_then}
use Rattle.cats_cmd.proofs.lines.LineBuffer.push_goods.Goals as goal

pub returns : goal.returns
returns g c =
    let first = c.in-Some.first.now in
    let rest = c.in-Some.rest.now in
    let split : c.args.goods.now ≡ first ∷ rest = search rules in
    rw split (gathers_then g.E.Write.contents (decimal first) (after_commas rest) _ _ _ _ _ _ (rw c.from.ensures at c.push_number.ensures)
    c.push_after_commas.ensures)
