-- `are_sums_exact`
use Rattle.analysis.proofs.Common.{◌≡◌, ◌≤◌, ◌*◌, range_with_len, MAX_PRICE, revenue}
use Rattle.analysis.proofs.winners.lp.are_sums_exact.Given as goal

-- the sum of the prices so far
abbrev pub invariant-loop-number : goal.invariant-loop-number
invariant-loop-number l = record {
  sum_is : l.sum ≡ revenue l.file (range_with_len 0 l.number);
  bound : l.sum ≤ l.number * MAX_PRICE;
}
