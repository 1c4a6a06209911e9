-- `push_variables`
use Rattle.analysis.proofs.Common.{◌≡◌, ◌++◌, flat_map, range_with_len, binary_line}
use Rattle.analysis.proofs.winners.lp.push_variables.Given as goal

-- the variables of the bids so far are appended
abbrev pub invariant-loop-number : goal.invariant-loop-number
invariant-loop-number l = l.text.items ≡ l.initial.text.items ++ flat_map binary_line (range_with_len 0 l.number)
