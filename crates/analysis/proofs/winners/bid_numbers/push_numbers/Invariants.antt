-- `push_numbers`
use Rattle.analysis.proofs.Common.{◌≡◌, ◌++◌, map, true, list_all, number_of, is_bid_number}
use Rattle.analysis.proofs.winners.bid_numbers.push_numbers.Given as goal

-- the words so far are numbers, which are appended
abbrev pub invariant-loop-word : goal.invariant-loop-word
invariant-loop-word l = record {
  appended : l.numbers.items ≡ l.initial.numbers.items ++ map number_of (map (λ word. word.now) l.yielded);
  faultless : list_all is_bid_number (map (λ word. word.now) l.yielded) ≡ true;
}
