-- `FaultSearch::end_line`
use Rattle.cats_text.proofs.Common.{[], ◌∷◌, refl}
use Rattle.cats_text.proofs.Feeding.Finding.{more_behind}
use Rattle.cats_text.proofs.fault_finder.FaultSearch.end_line.Goals as goal

pub returns-in-Some-clause-seeking : goal.returns-in-Some-clause-seeking
returns-in-Some-clause-seeking c =
    more_behind c.go_on.new.self _ (10 ∷ []) c.in-Some.field-0 c.in_ok-go_on.ensures.seeking c.in-Some.is c.in-Some.is refl refl c.note.ensures
