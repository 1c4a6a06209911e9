-- `Rounder::push`
use Rattle.rounding.proofs.Common.{◌-◌, ◌≤◌, length, drop, RoundsOn}
use Rattle.rounding.proofs.rounder.Rounder.push.Given as goal

-- the lines before this place of the piece were rounded
abbrev pub invariant-loop-start : goal.invariant-loop-start
invariant-loop-start l = (l.start ≤ length l.piece) × RoundsOn l.fn.self l.piece l.self (drop l.start l.piece) l.fn.rounded l.rounded

abbrev pub decreases-loop-start : goal.decreases-loop-start
decreases-loop-start l = length l.piece - l.start
