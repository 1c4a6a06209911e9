-- `write`
use Rattle.cats_text.proofs.Common.{rules}
use Rattle.cats_text.proofs.Writing.Spells.{layout_spells}
use Rattle.cats_text.proofs.layout.write.Goals as goal

pub returns-clause-spells : goal.returns-clause-spells
returns-clause-spells g c = search (rules, layout_spells)
