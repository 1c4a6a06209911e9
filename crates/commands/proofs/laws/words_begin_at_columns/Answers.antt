-- `words_begin_at_columns`
use Rattle.commands.proofs.Columns.{all_before, words_before, words_from, begins_there}
use Rattle.commands.proofs.laws.words_begin_at_columns.Goals as goal

pub returns-clause-end : goal.returns-clause-end
returns-clause-end c = all_before

pub returns-clause-before : goal.returns-clause-before
returns-clause-before c = words_before

pub returns-clause-behind : goal.returns-clause-behind
returns-clause-behind c = words_from

pub returns-clause-begins : goal.returns-clause-begins
returns-clause-begins c = begins_there
