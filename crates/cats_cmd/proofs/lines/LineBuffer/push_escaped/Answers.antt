-- `LineBuffer::push_escaped`
use Rattle.cats_cmd.proofs.Common.{[], refl, sym, ◌∙◌}
use Rattle.cats_cmd.proofs.Gathering.{all_gathered, gathers_nothing, gathers_part}
use Rattle.cats_cmd.proofs.lines.LineBuffer.push_escaped.Goals as goal

pub loop-rest-init : goal.loop-rest-init
loop-rest-init g c =
    record { text = []; gathers = gathers_nothing g.E.Write.contents c.args.self.now c.args.err.now; completes = refl }

pub loop-rest-preserved : goal.loop-rest-preserved
loop-rest-preserved g c = gathers_part g.E.Write.contents _ _ _ _ _ _ _ _ _ c.loop-rest.invariant c.push_next-rest.ensures.gathers

pub returns : goal.returns
returns g c =
    all_gathered g.E.Write.contents c.args.path.now _ _ _ _ _ c.loop-rest.invariant (sym c.loop-rest-test.false ∙ c.is_empty.ensures)
