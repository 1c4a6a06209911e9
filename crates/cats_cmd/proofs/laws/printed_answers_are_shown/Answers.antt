-- `printed_answers_are_shown`
use Rattle.cats_cmd.proofs.AnswersShown.{command_printed, place_shown, printed}
use Rattle.cats_cmd.proofs.Sending.{pair_facts}
use Rattle.cats_cmd.proofs.laws.printed_answers_are_shown.Goals as goal

pub returns-clause-commands : goal.returns-clause-commands
returns-clause-commands g c = λ request bids met file status text is. (printed _ status text (command_printed request bids met file) is).1

pub returns-clause-comparisons : goal.returns-clause-comparisons
returns-clause-comparisons g c = λ request first first_after second second_after answer given.
    ((pair_facts g.I.Input.gives g.I.Input.refuses g.J.Input.gives g.J.Input.refuses first first_after second second_after request.task
    request.options).made answer given).printed.1

pub returns-clause-fault : goal.returns-clause-fault
returns-clause-fault g c = place_shown
