-- `LineBuffer::push_pieces`: the pieces so far were put behind the line
use Rattle.cats_cmd.proofs.Common.{take, text_of_pieces, Gathers}
use Rattle.cats_cmd.proofs.lines.LineBuffer.push_pieces.Given as goal

abbrev pub invariant-loop-piece : goal.invariant-loop-piece
invariant-loop-piece g l =
    Gathers g.E.Write.contents (text_of_pieces (take l.piece-index l.pieces)) l.initial.self l.self l.initial.err l.err
