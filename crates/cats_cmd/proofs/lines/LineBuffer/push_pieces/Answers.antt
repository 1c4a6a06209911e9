-- `LineBuffer::push_pieces`
use Rattle.cats_cmd.proofs.Common.{text_of_piece}
use Rattle.cats_cmd.proofs.Gathering.{gathers_nothing, gathers_next}
use Rattle.cats_cmd.proofs.lines.LineBuffer.push_pieces.Goals as goal

pub loop-piece-init : goal.loop-piece-init
loop-piece-init g c = gathers_nothing g.E.Write.contents c.args.self.now c.args.err.now

pub loop-piece-preserved : goal.loop-piece-preserved
loop-piece-preserved g c =
    gathers_next g.E.Write.contents text_of_piece c.args.pieces.now c.loop-piece.piece-index _ c.loop-piece-test.true _ _ _ _ _ _ c.loop-piece.invariant
    c.push_piece.ensures
