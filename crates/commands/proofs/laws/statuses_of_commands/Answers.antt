-- `statuses_of_commands`: if the statuses of what a command makes of files are in a list, and 2, 4 and 5 are too, so are the statuses of its answers.
use Rattle.commands.proofs.Common.{◌≡◌, ℕ, Bool, true, false, List, Ok, Err, arith, refl, PlainFile, ReadFault, CanonFault, StepLimit, Memory, RunFault}
use Rattle.commands.proofs.Common.{Refused, Outcome, Prints, Answer, Kind}
use Rattle.std.specs.Prelude.{eqb}
use Rattle.canon.specs.declared.canon_fault.CanonFault.TheVariants.{Read}
use Rattle.commands.specs.declared.faults.RunFault.TheVariants.{TooHeavy, GoodRange, BidRange}
use Rattle.commands.specs.Outcomes.{LacksGood, LacksBid, ExceedsSteps, ExceedsAtBid}
use Rattle.commands.specs.Commands.{Commands}
use Rattle.std.specs.List.{list_any}
use Rattle.std.proofs.lemmas.Bool.{eqb-true}
use Rattle.std.proofs.lemmas.Map.Views.{Contains-from_any}
use Rattle.cats_text.specs.declared.read_fault.Kind.TheVariants.{Device, Memory as NoMemory}
use Rattle.commands.specs.Commands.{IsRefused, has_met_limit}
use Rattle.commands.specs.Meanings.{outcome_by, outcome_of, statuses_of}
use Rattle.requests.specs.Requests.{PlainRequest}
use Rattle.requests.specs.declared.task.Task.{Task}
use Rattle.commands.specs.Statuses.{status_of_canon_fault, status_of_fault, status_of_read_fault}
use Rattle.commands.proofs.laws.statuses_of_commands.Goals as goal

abbrev status_in : Outcome → ℕ
status_in (Prints status text) = status
status_in (LacksGood good) = 64
status_in (LacksBid bid) = 64
status_in (ExceedsSteps goods) = 3
status_in (ExceedsAtBid limit number goods) = 3

-- a test, which is computed where the list is known
abbrev Has : List ℕ → ℕ → Type 0
Has statuses status = list_any (eqb status) statuses ≡ true

module _ (statuses : List ℕ) (two : Has statuses 2) (four : Has statuses 4) (five : Has statuses 5) where
  of_read : (kind : Kind) → Has statuses (status_of_read_fault kind)
  of_read Device = five
  of_read NoMemory = four
  of_read kind = two

  module _ {I : Type 0} (gives : I → I → PlainFile → Type 0) (refuses : I → I → ReadFault → Type 0) (outcome : PlainFile → Outcome)
      (of_file : (file : PlainFile) → Has statuses (status_in (outcome file))) (old new : I) where
    of_canon : (fault : CanonFault) → IsRefused gives refuses outcome old new fault → Has statuses (status_of_canon_fault fault)
    of_canon (Read fault) h = of_read fault.kind
    of_canon (StepLimit goods) h = grind (arith, of_file h.file)
    of_canon Memory h = four

    of_fault : (fault : RunFault) → Commands gives refuses outcome old new (Err fault) → Has statuses (status_of_fault fault)
    of_fault (Refused which fault) h = of_canon fault h.1
    of_fault (TooHeavy which heavy) h = grind (arith, of_file h.1.file)
    of_fault (GoodRange good) h = grind (arith, of_file h.file)
    of_fault (BidRange bid) h = grind (arith, of_file h.file)
    of_fault fault h = absurd h

    of_answer : (answer : Answer) → Commands gives refuses outcome old new (Ok answer) → Has statuses answer.status
    of_answer answer h = grind (arith, of_file h.file)

has_status : (task : Task) (request : PlainRequest) (bids : List ℕ) (met : Bool) (file : PlainFile)
    → Has (statuses_of task) (status_in (outcome_by task request bids met file))
has_status task request bids met file = grind arith

pub returns : goal.returns
returns g c = record {
  printed = λ request bids old new answer h. Contains-from_any eqb-true answer.status (statuses_of request.task)
      (of_answer (statuses_of request.task) refl refl refl g.I.Input.gives g.I.Input.refuses (outcome_of request bids false)
      (has_status request.task request bids false) old new answer h);
  refused = λ request bids old new fault h. Contains-from_any eqb-true (status_of_fault fault) (statuses_of request.task)
      (of_fault (statuses_of request.task) refl refl refl g.I.Input.gives g.I.Input.refuses (outcome_of request bids (has_met_limit (Err fault)))
      (has_status request.task request bids (has_met_limit (Err fault))) old new fault h);
}
