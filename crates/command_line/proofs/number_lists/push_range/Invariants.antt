-- `push_range`
use Rattle.command_line.proofs.Common.{◌≡◌, ◌-◌, range_with_len, AreMarked, with_all}
use Rattle.command_line.proofs.number_lists.push_range.Given as goal

-- the numbers below this one are pushed
abbrev pub invariant-loop-number : goal.invariant-loop-number
invariant-loop-number l =
    (l.numbers.items ≡ with_all l.initial.numbers.items (range_with_len l.first (l.number - l.first))) × AreMarked l.numbers.items l.marks
