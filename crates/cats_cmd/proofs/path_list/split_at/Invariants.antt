-- `split_at`
use Rattle.cats_cmd.proofs.Common.{◌≡◌}
use Rattle.cats_cmd.proofs.path_list.split_at.Given as goal

-- the parts so far are those that the loop has had
abbrev pub invariant-loop-part : goal.invariant-loop-part
invariant-loop-part l = l.parts.items ≡ l.yielded
