-- `without_return`
use Rattle.cats_text.proofs.Common.{rules, ne_eqb}
use Rattle.cats_text.proofs.Texts.FirstWords.{without_last, with_last}
use Rattle.cats_text.proofs.fault_place.without_return.Goals as goal

pub returns-then-last-eq13 : goal.returns-then-last-eq13
returns-then-last-eq13 c = search (rules, without_last)

pub returns-else-last-eq13 : goal.returns-else-last-eq13
returns-else-last-eq13 c = search (rules, with_last, ne_eqb)
