-- `same_as_has_the_text`
use Rattle.cats_cmd.proofs.PublishedRows.{has_same_text}
use Rattle.cats_cmd.proofs.laws.same_as_has_the_text.Goals as goal

pub returns : goal.returns
returns c before file path is = has_same_text before file path is
