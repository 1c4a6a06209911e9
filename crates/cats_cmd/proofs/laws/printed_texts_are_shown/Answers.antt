-- `printed_texts_are_shown`
use Rattle.cats_cmd.proofs.AnswersShown.{diff_shown, difference_shown, explanation_shown, revenue_shown, value_shown}
use Rattle.cats_cmd.proofs.laws.printed_texts_are_shown.Goals as goal

pub returns : goal.returns
returns c = record {
  value = value_shown;
  revenue = revenue_shown;
  compare = difference_shown;
  explain = explanation_shown;
  diff = diff_shown;
}
