-- `FaultSearch::judge`
use Rattle.cats_text.proofs.Common.{arith, ap, ◌∙◌, ◌+◌, refl, without_return}
use Rattle.cats_text.proofs.Feeding.Finding.{found_in_line}
use Rattle.cats_text.proofs.Texts.FirstPlaces.{machine_stops}
use Rattle.cats_text.proofs.fault_finder.FaultSearch.judge.Goals as goal

pub returns-in_ok-fault-in-Err-clause-judges : goal.returns-in_ok-fault-in-Err-clause-judges
returns-in_ok-fault-in-Err-clause-judges c =
    found_in_line c.args.self.now _ (c.args.self.now.lines + 1) c.without_return-line.result.now c.in-Err.place c.in_ok-fault-in-Err.fault (omega arith)
    (c.without_return-line.ensures ∙ ap without_return c.as_slice.ensures.value)
    (machine_stops c.in-Err.place.kind _ _ c.in_ok-fault-in-Err.ensures.kind c.in-Err.ensures.judged) c.in_ok-fault-in-Err.ensures.is refl refl
