-- `plain_run`: the bytes so far are not escaped
use Rattle.cats_cmd.proofs.Common.{◌≡◌, ◌≤◌, ◌-◌, ◌++◌, length, take, drop, escaped}
use Rattle.cats_cmd.proofs.escaping.plain_run.Given as goal

abbrev pub invariant-loop-run : goal.invariant-loop-run
invariant-loop-run l = (l.run ≤ length l.bytes) × (escaped l.bytes ≡ take l.run l.bytes ++ escaped (drop l.run l.bytes))

abbrev pub decreases-loop-run : goal.decreases-loop-run
decreases-loop-run l = length l.bytes - l.run
