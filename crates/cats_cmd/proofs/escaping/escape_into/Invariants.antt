-- `escape_into`: what is there and what is still to come are the whole
use Rattle.cats_cmd.proofs.Common.{◌≡◌, ◌++◌, length, escaped, escaped_behind}
use Rattle.cats_cmd.proofs.escaping.escape_into.Given as goal

abbrev pub invariant-loop-rest : goal.invariant-loop-rest
invariant-loop-rest l = l.text.items ++ escaped_behind l.left l.rest ≡ l.fn.text.items ++ escaped l.path

abbrev pub decreases-loop-rest : goal.decreases-loop-rest
decreases-loop-rest l = length l.rest
