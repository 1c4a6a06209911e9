-- `push_word`
use Rattle.command_line.proofs.Common.{◌≡◌, drop, all_numbers, numbers_of_part, texts_of, AreMarked}
use Rattle.command_line.proofs.NumbersSoFar.{after}
use Rattle.command_line.proofs.number_lists.push_word.Given as goal

-- the numbers so far, and those of the parts that are left
abbrev pub invariant-loop-part : goal.invariant-loop-part
invariant-loop-part l = (after l.initial.numbers.items (all_numbers (numbers_of_part l.most) (texts_of l.part-items))
    ≡ after l.numbers.items (all_numbers (numbers_of_part l.most) (texts_of (drop l.part-index l.part-items)))) × AreMarked l.numbers.items l.marks
