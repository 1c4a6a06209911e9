-- `second_words`
use Rattle.rounding.proofs.FileLines.{line_parts, second_is}
use Rattle.rounding.proofs.laws.second_words.Goals as goal

pub returns-clause-parts : goal.returns-clause-parts
returns-clause-parts c = line_parts

pub returns-clause-word : goal.returns-clause-word
returns-clause-word c = second_is
