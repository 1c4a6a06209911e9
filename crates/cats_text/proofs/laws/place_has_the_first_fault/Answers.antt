-- `place_has_the_first_fault`
use Rattle.cats_text.proofs.Texts.FirstPlaces.{place_has_fault}
use Rattle.cats_text.proofs.laws.place_has_the_first_fault.Goals as goal

pub returns : goal.returns
returns c = place_has_fault
