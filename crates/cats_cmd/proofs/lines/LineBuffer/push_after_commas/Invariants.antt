-- `LineBuffer::push_after_commas`: the goods so far were put behind the line
use Rattle.cats_cmd.proofs.Common.{take, after_commas, Gathers}
use Rattle.cats_cmd.proofs.lines.LineBuffer.push_after_commas.Given as goal

abbrev pub invariant-loop-good : goal.invariant-loop-good
invariant-loop-good g l =
    Gathers g.E.Write.contents (after_commas (take l.good-index l.goods)) l.initial.self l.self l.initial.err l.err
