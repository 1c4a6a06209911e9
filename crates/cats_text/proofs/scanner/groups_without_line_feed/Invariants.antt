-- `groups_without_line_feed`
use Rattle.cats_text.proofs.Common.{◌≡◌, ◌≤◌, ◌-◌, eqb, false, take, length, list_any}
use Rattle.cats_text.proofs.scanner.groups_without_line_feed.Given as goal

abbrev pub invariant-loop-offset : goal.invariant-loop-offset
invariant-loop-offset l = (l.offset ≤ length l.bytes) × (list_any (λ b. eqb b 10) (take l.offset l.bytes) ≡ false)

abbrev pub decreases-loop-offset : goal.decreases-loop-offset
decreases-loop-offset l = length l.bytes - l.offset
