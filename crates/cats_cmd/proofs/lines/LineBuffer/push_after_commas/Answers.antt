-- `LineBuffer::push_after_commas`
use Rattle.cats_cmd.proofs.Common.{◌∷◌, decimal}
use Rattle.cats_cmd.proofs.Gathering.{gathers_nothing, gathers_next}
use Rattle.cats_cmd.proofs.lines.LineBuffer.push_after_commas.Goals as goal

pub loop-good-init : goal.loop-good-init
loop-good-init g c = gathers_nothing g.E.Write.contents c.args.self.now c.args.err.now

pub loop-good-preserved : goal.loop-good-preserved
loop-good-preserved g c =
    gathers_next g.E.Write.contents (λ g. 44 ∷ decimal g) c.args.goods.now c.loop-good.good-index 0 c.loop-good-test.true _ _ _ _ _ _ c.loop-good.invariant
    c.push_after_comma.ensures
