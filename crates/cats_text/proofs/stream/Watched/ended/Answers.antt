-- `Watched::ended`
use Rattle.cats_text.proofs.Common.{refl}
use Rattle.cats_text.proofs.stream.Watched.ended.Goals as goal

pub returns : goal.returns
returns g c = refl
