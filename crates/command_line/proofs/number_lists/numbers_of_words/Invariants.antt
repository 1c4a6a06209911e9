-- `numbers_of_words`
use Rattle.command_line.proofs.Common.{◌≡◌, drop, all_numbers, numbers_of_word, numbers_of_words, texts_of, AreMarked}
use Rattle.command_line.proofs.NumbersSoFar.{after}
use Rattle.command_line.proofs.number_lists.numbers_of_words.Given as goal

-- the numbers so far, and those of the words that are left
abbrev pub invariant-loop-word : goal.invariant-loop-word
invariant-loop-word l = (numbers_of_words l.most (texts_of l.words)
    ≡ after l.numbers.items (all_numbers (numbers_of_word l.most) (texts_of (drop l.word-index l.words)))) × AreMarked l.numbers.items l.marks
