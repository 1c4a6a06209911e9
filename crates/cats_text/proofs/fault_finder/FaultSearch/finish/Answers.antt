-- `FaultSearch::finish`
use Rattle.cats_text.proofs.Common.{rules, arith, refl, subst}
use Rattle.cats_text.specs.Internal.Finding.{HasJudged, HasFaultAt, HasNoFault, bytes_of}
use Rattle.cats_text.proofs.Feeding.Finding.{fault_line, missing_line, no_fault}
use Rattle.cats_text.proofs.fault_finder.FaultSearch.finish.Goals as goal

pub returns-in-Some : goal.returns-in-Some
returns-in-Some c =
    let text = bytes_of c.args.self in
    let f = c.end.new.self in
    let has : HasFaultAt f text c.in-Some.fault = subst (HasJudged f text) c.in-Some.is c.in_ok-end.ensures.judged in
    fault_line f text c.in-Some.fault _ has refl (omega arith) refl refl

pub returns-in-None : goal.returns-in-None
returns-in-None c =
    let text = bytes_of c.args.self in
    let f = c.end.new.self in
    let has : HasNoFault f text = subst (HasJudged f text) c.in-None.is c.in_ok-end.ensures.judged in
    missing_line f text _ has (search rules) c.new.ensures.items (omega arith) refl refl

pub returns : goal.returns
returns c =
    let text = bytes_of c.args.self in
    let f = c.end.new.self in
    let has : HasNoFault f text = subst (HasJudged f text) c.in-None-2.is c.in_ok-end.ensures.judged in
    no_fault f text has (search rules)
