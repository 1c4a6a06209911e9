-- `Faults::add_file`
use Rattle.cats_cmd.proofs.Common.{◌≡◌, Ok, Err, Some, None, refl, subst, IsRead, first_place}
use Rattle.cats_cmd.specs.Internal.FoundFaults.{IsFound, IsFoundFault}
use Rattle.cats_cmd.proofs.Judging.{faults_kept, faults_more}
use Rattle.cats_cmd.proofs.fault.Faults.add_file.Goals as goal

pub returns-in-Err : goal.returns-in-Err
returns-in-Err g c = record {
  judgement = IsRead (Err c.in-Err.fault);
  judges = (c.in-Err.ensures.finds, c.in-Err.ensures.rounded);
  adds = λ js h. faults_kept c.args.self.now.text.items c.args.path.now (IsRead (Err c.in-Err.fault)) js refl h;
  is_fault = rw (c.from-in-Err.ensures, c.from.ensures) refl;
}

pub returns-in_default : goal.returns-in_default
returns-in_default g c =
    let finds = c.in-Ok.ensures.finds in
    let none : first_place finds.judged ≡ None = subst (IsFound finds.bytes finds.judged) c.in_default.is finds.finds in
    let texts = Ok (finds.bytes, finds.judged) in
    record {
      judgement = IsRead texts;
      judges = (finds.texts, c.in-Ok.ensures.rounded);
      adds = λ js h. faults_kept c.args.self.now.text.items c.args.path.now (IsRead texts) js (rw none refl) h;
      is_fault = rw none refl;
    }

pub returns : goal.returns
returns g c =
    let finds = c.in-Ok.ensures.finds in
    let at : IsFoundFault finds.bytes finds.judged c.in-Some.found = subst (IsFound finds.bytes finds.judged) c.in-Some.is finds.finds in
    let texts = Ok (finds.bytes, finds.judged) in
    record {
      judgement = IsRead texts;
      judges = (finds.texts, c.in-Ok.ensures.rounded);
      adds = λ js h. faults_more c.args.self.now.text.items c.push_fault.new.text.items c.args.path.now (IsRead texts) js
          (rw at.first (c.in_ok-push_fault.ensures finds.bytes finds.judged at)) h;
      is_fault = rw (at.first, c.from-2.ensures, at.line, at.kind) refl;
    }
