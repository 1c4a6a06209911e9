-- `faults_of_texts`
use Rattle.cats_text.proofs.Common.{true, false, refl, subst, IfSome}
use Rattle.cats_text.proofs.Texts.FaultKinds.{IsFound, first_fault-found, complete_fault-found}
use Rattle.cats_text.proofs.laws.faults_of_texts.Goals as goal

pub returns-clause-first : goal.returns-clause-first
returns-clause-first c text e h = let f = subst (λ fault. IfSome fault (IsFound true)) h (first_fault-found text) in f.0

pub returns-clause-complete : goal.returns-clause-complete
returns-clause-complete c bytes e h = let f = subst (λ fault. IfSome fault (IsFound false)) h (complete_fault-found bytes) in f.0

pub returns-clause-not_missing : goal.returns-clause-not_missing
returns-clause-not_missing c bytes e h = let f = subst (λ fault. IfSome fault (IsFound false)) h (complete_fault-found bytes) in f.1 refl
