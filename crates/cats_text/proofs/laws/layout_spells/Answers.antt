-- `layout_spells`
use Rattle.cats_text.proofs.Common.{layout}
use Rattle.cats_text.proofs.Spelling.Files.{spells_one}
use Rattle.cats_text.proofs.Writing.Spells as proof
use Rattle.cats_text.proofs.laws.layout_spells.Goals as goal

pub returns-clause-spelled : goal.returns-clause-spelled
returns-clause-spelled c = proof.layout_spells

pub returns-clause-no_other : goal.returns-clause-no_other
returns-clause-no_other c f g facts spelled = spells_one (layout f) g f spelled (proof.layout_spells f facts)
