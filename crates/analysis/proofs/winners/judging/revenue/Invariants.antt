-- `revenue`
use Rattle.analysis.proofs.Common.{◌≡◌, ◌≤◌, ◌*◌, take, MAX_PRICE, revenue}
use Rattle.analysis.proofs.winners.judging.revenue.Given as goal

-- the sum of the prices so far
abbrev pub invariant-loop-number : goal.invariant-loop-number
invariant-loop-number l = record {
  sum_is : l.sum ≡ revenue l.file (take l.number-index l.winners);
  bound : l.sum ≤ l.number-index * MAX_PRICE;
}
