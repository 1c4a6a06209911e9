-- `has_bid_line`
use Rattle.rounding.proofs.Common.{◌-◌, ◌≤◌, length}
use Rattle.rounding.proofs.FileLines.{IsCounted}
use Rattle.rounding.proofs.text.has_bid_line.Given as goal

abbrev pub invariant-loop-start : goal.invariant-loop-start
invariant-loop-start l = (l.start ≤ length l.text) × (l.count ≤ l.start) × IsCounted l.text l.start l.count

abbrev pub decreases-loop-start : goal.decreases-loop-start
decreases-loop-start l = length l.text - l.start
