-- `faultless_text_spells`
use Rattle.cats_text.proofs.Common.{sym}
use Rattle.cats_text.proofs.Spelling.Files.{spells_from_no_fault, says_spelled}
use Rattle.cats_text.proofs.laws.faultless_text_spells.Goals as goal

pub returns-clause-spelled : goal.returns-clause-spelled
returns-clause-spelled c = spells_from_no_fault

pub returns-clause-same : goal.returns-clause-same
returns-clause-same c text f s = sym (says_spelled text f s)
