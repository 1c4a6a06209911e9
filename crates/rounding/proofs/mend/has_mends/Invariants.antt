-- `has_mends`
use Rattle.rounding.proofs.Common.{◌≡◌, ◌-◌, ◌≤◌, length, drop, raw_lines}
use Rattle.rounding.specs.Layouts.{has_mends, lines_need_mending}
use Rattle.rounding.proofs.mend.has_mends.Given as goal

abbrev pub invariant-loop-start : goal.invariant-loop-start
invariant-loop-start l = (l.start ≤ length l.text) × (l.before ≤ l.start)
    × (lines_need_mending l.before (raw_lines (drop l.start l.text)) ≡ has_mends l.text)

abbrev pub decreases-loop-start : goal.decreases-loop-start
decreases-loop-start l = length l.text - l.start
