-- `Holders::first_waiting`
use Rattle.analysis.proofs.Common.{◌≡◌, ◌-◌, length, Some, ArePassed}
use Rattle.analysis.proofs.differences.holders.Holders.first_waiting.Given as goal

-- those that are passed wait no more
abbrev pub invariant-loop-self : goal.invariant-loop-self
invariant-loop-self l = record {
  indices : l.self.indices ≡ l.initial.self.indices;
  passed : ArePassed l.waiting (Some l.initial.self) → ArePassed l.waiting (Some l.self);
}

abbrev pub decreases-loop-self : goal.decreases-loop-self
decreases-loop-self l = length l.self.indices.items - l.self.passed
