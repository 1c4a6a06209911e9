-- `complete_fault_stays`
use Rattle.cats_text.proofs.Texts.MachineAnswers as proof
use Rattle.cats_text.proofs.laws.complete_fault_stays.Goals as goal

pub returns : goal.returns
returns c = proof.complete_fault_stays
