-- `mend_lines`
use Rattle.rounding.proofs.Common.{◌+◌, ◌-◌, ◌*◌, ◌≤◌, length}
use Rattle.rounding.proofs.MendedLines.{IsMendedTo}
use Rattle.rounding.proofs.mend.mend_lines.Given as goal

abbrev pub invariant-loop-start : goal.invariant-loop-start
invariant-loop-start l = (l.start ≤ length l.text) × (l.number ≤ l.start + 1) × (l.before ≤ 2 * l.start)
    × IsMendedTo l.text l.start l.number l.before l.mended.text.items l.mended.mends.items

abbrev pub decreases-loop-start : goal.decreases-loop-start
decreases-loop-start l = length l.text - l.start
