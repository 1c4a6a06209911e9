-- `Walk::read`
use Rattle.cats_cmd.proofs.Common.{StaysBelow}
use Rattle.cats_cmd.proofs.folder.Walk.read.Given as goal

abbrev pub invariant-loop-name : goal.invariant-loop-name
invariant-loop-name g l = StaysBelow l.fn.start l.fn.self l.self
