-- `LineBuffer::push_escaped`: the beginning of the path was put behind the line, and the rest is to come
use Rattle.cats_cmd.proofs.Common.{length, GathersNext}
use Rattle.cats_cmd.proofs.lines.LineBuffer.push_escaped.Given as goal

abbrev pub invariant-loop-rest : goal.invariant-loop-rest
invariant-loop-rest g l = GathersNext g.E.Write.contents l.path l.rest l.initial.self l.self l.initial.err l.err

abbrev pub decreases-loop-rest : goal.decreases-loop-rest
decreases-loop-rest g l = length l.rest
