-- `spells_one_or_faults`
use Rattle.cats_text.proofs.Spelling.Files.{spells_one, spells_or_fault, never_spells_and_faults}
use Rattle.cats_text.proofs.laws.spells_one_or_faults.Goals as goal

pub returns-clause-one_or_fault : goal.returns-clause-one_or_fault
returns-clause-one_or_fault c = spells_or_fault

pub returns-clause-never_both : goal.returns-clause-never_both
returns-clause-never_both c = never_spells_and_faults

pub returns-clause-only_one : goal.returns-clause-only_one
returns-clause-only_one c = spells_one
