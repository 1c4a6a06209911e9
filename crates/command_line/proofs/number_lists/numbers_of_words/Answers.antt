-- `numbers_of_words`
use Rattle.command_line.proofs.Common.{◌∙◌, Some, rules, tests, all_numbers, numbers_of_word, texts_of}
use Rattle.command_line.proofs.FirstNames.{firsts_found, none_marked}
use Rattle.command_line.proofs.NumbersSoFar.{one_more, right_word}
use Rattle.command_line.proofs.number_lists.numbers_of_words.Goals as goal

pub loop-word-init : goal.loop-word-init
loop-word-init c = (
  rw c.new-numbers.ensures.items (firsts_found (all_numbers (numbers_of_word c.args.most) (texts_of c.args.words.now))),
  none_marked _ c.new-numbers.ensures.items,
)

pub loop-word-preserved : goal.loop-word-preserved
loop-word-preserved c = (
  c.loop-word.invariant.0
      ∙ one_more (numbers_of_word c.args.most) c.loop-word.numbers.items (Some c.push_word.new.numbers.items) c.args.words.now c.loop-word.word-index _
      c.loop-word-test.true (right_word _ _ _ (search (rules, tests)) c.in_ok-push_word.ensures.numbers),
  c.in_ok-push_word.ensures.marks,
)
