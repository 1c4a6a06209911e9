-- `PushReader::new`: it has taken no bytes.
use Rattle.cats_text.proofs.Common.{rules, refl}
use Rattle.cats_text.proofs.Feeding.Pieces.{nothing_taken}
use Rattle.cats_text.proofs.push_reader.PushReader.new.Goals as goal

pub invariant_of-result : goal.invariant_of-result
invariant_of-result g c = search (rules, nothing_taken)

pub returns : goal.returns
returns g c = rw c.new-2.ensures refl
