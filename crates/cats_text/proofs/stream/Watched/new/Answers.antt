-- `Watched::new`
use Rattle.cats_text.proofs.Common.{refl}
use Rattle.cats_text.proofs.stream.Watched.new.Goals as goal

pub returns-clause-ended : goal.returns-clause-ended
returns-clause-ended g c = refl
