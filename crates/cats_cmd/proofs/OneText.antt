-- The run on the only text of a name, if it ends in success: all of the text is read, and what is made of it is printed.
use Rattle.cats_cmd.proofs.Common.{false, ◌≡◌, ◌<◌, ◌++◌, ◌∙◌, ℕ, Bool, List, Option, Some, None, Result, Ok, Err, arith, refl, sym, ap, subst, append-nil}
use Rattle.cats_cmd.proofs.Common.{PlainFile, CanonFault, Read, StepLimit, Memory, Kind, Device, status_of_canon_fault, status_of_read_fault, Watched}
use Rattle.cats_cmd.proofs.Common.{inner_of, SendsWhole, PriceRule, Outcome, CommandsIfMet, text_of, RunFault, Refused}
use Rattle.cats_cmd.proofs.Common.{IsPriced, PricedGives, PricedRefuses, gives_by, PricedInput, answer_if_lost, is_lost}
use Rattle.cats_cmd.proofs.Common.{status_of_fault, RunsAt, RunsCommand}
use Rattle.std.specs.Io.KnownBytes.{Consumes, IsAtEnd}
use Rattle.cats_text.specs.Grammar.{Spells}
use Rattle.cats_text.specs.declared.read_fault.Kind.TheVariants.{Memory as NoMemory}
use Rattle.cats_cmd.specs.OneText.{PrintsOf, text_read}
use Rattle.cats_cmd.specs.Runs.{WritesAnswer}

-- ---- the statuses of what fails are above those of success and of a difference

read_fails : (kind : Kind) → 1 < status_of_read_fault kind
read_fails Device = omega arith
read_fails NoMemory = omega arith
read_fails kind = omega arith

canon_fails : (fault : CanonFault) → 1 < status_of_canon_fault fault
canon_fails (Read fault) = read_fails fault.kind
canon_fails (StepLimit goods) = omega arith
canon_fails Memory = omega arith

pub fault_fails : (fault : RunFault) → 1 < status_of_fault fault
fault_fails (Refused which fault) = canon_fails fault
fault_fails fault = omega arith

not_lost : (lost : Bool) (status sent : ℕ) (answer : Result ℕ RunFault) → answer ≡ Ok status → status < 2 → answer ≡ answer_if_lost lost (Ok sent)
    → status ≡ sent
not_lost lost status sent answer is success lost_or_not = grind arith

-- ---- the text that is read

module _ {F : Type 0} (remaining : F → Option (List ℕ)) (text : List ℕ) where
  whole : (left : Option (List ℕ)) (came : List ℕ) → Consumes (Some text) left came → IsAtEnd left → came ≡ text
  whole None came consumed end = absurd consumed
  whole (Some left) came consumed end = sym (consumed ∙ ap (λ (rest : List ℕ). came ++ rest) end ∙ append-nil came)

  file_read : (rule : Option PriceRule) (before after : PricedInput F) (file : PlainFile) → remaining (inner_of before.stream) ≡ Some text
      → gives_by remaining rule before after file → Spells (text_read rule text) file
  file_read None before after file opened given =
      let read = given.given in
      subst (λ (bytes : List ℕ). Spells bytes file)
      (whole (remaining (inner_of after.stream)) read.bytes (rw opened at read.consumes) read.reads.whole.at_end) read.reads.spelled
  file_read (Some rule) before after file opened given =
      subst (λ (bytes : List ℕ). Spells (text_read (Some rule) bytes) file)
      (whole (remaining (inner_of after.stream)) given.bytes (rw opened at given.all.consumes) given.all.at_end) given.spells

-- ---- the run

module _ {F W E : Type 0} (may_open : List ℕ → F → Type 0) (remaining : F → Option (List ℕ)) (contents : W → Option (List ℕ))
    (messages : E → Option (List ℕ)) (path text : List ℕ) (only : (stream : F) → may_open path stream → remaining stream ≡ Some text)
    (prices : Option PriceRule) (outcome : Bool → PlainFile → Outcome) (out out_after : Watched W) (err err_after : Watched E) (status : ℕ)
    (success : status < 2) where
  abbrev Printed : Type 0
  Printed = (printed : List ℕ) × PrintsOf (outcome false) prices text status printed × SendsWhole contents out out_after printed

  sent_text : (before after : PricedInput F) → IsPriced may_open prices path before
      → WritesAnswer contents (CommandsIfMet (PricedGives remaining) (PricedRefuses remaining) outcome before after) out out_after status → Printed
  sent_text before after opened written =
      let rule = opened.rule in
      let made = written.answers in
      let file = rw rule at (file_read remaining text before.rule before after made.file (only (inner_of before.stream) opened.opened.opened) made.given) in
      (text_of written.answer.output, record { file = made.file; spelled = file; made = rw written.is_status made.made }, written.sent)

  pub run_prints : RunsAt may_open remaining contents messages path prices outcome out out_after err err_after (Ok status) → Printed
  run_prints run = by run.sent run.answers run.runs
    where
      lost : Bool
      lost = is_lost run.after.rounded.count err_after

      by : (sent : Result ℕ RunFault) → Ok status ≡ answer_if_lost lost sent
          → RunsCommand contents (CommandsIfMet (PricedGives remaining) (PricedRefuses remaining) outcome run.before run.after) out out_after sent
          → Printed
      by (Ok sent) is written =
          sent_text run.before run.after run.opened
          (subst (λ (s : ℕ). WritesAnswer contents (CommandsIfMet (PricedGives remaining) (PricedRefuses remaining) outcome run.before run.after) out
          out_after s)
          (sym (not_lost lost status sent (Ok status) refl success is)) written)
      by (Err fault) is written = cc
