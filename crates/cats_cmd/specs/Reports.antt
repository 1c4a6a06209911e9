-- What a request reports before it ends, what is lost of it, and what is sent to standard error.
use Rattle.std.specs.Prelude.{◌≡◌, ◌⊎◌, ◌&&◌, ◌||◌, ℕ, Bool, true, false, List, [], ◌∷◌, Option, Result, Ok}
use Rattle.std.specs.Prelude.{Err}
use Rattle.std.specs.Prelude.{if◌then◌else◌, is_some, nat_lt}
use Rattle.std.specs.Option.{option_map_or}
use Rattle.cats_text.specs.Streams.{has_failed, Sends}
use Rattle.cats_text.specs.declared.read_fault.SendFault.{SendFault}
use Rattle.cats_text.specs.declared.stream.Watched.{Watched}
use Rattle.commands.specs.declared.faults.RunFault.{RunFault}
use Rattle.requests.specs.Requests.{PlainRequest}
use Rattle.requests.specs.Tasks.{files_of, is_many}
use Rattle.requests.specs.declared.task.Task.{Task}
use Rattle.requests.specs.declared.task.Task.TheVariants.{Round}
use Rattle.rounding.specs.declared.replacement.PriceRule.{PriceRule}
use Rattle.command_line.specs.Requests.{request_of}

-- whether a request is for `fault`, `duplicates`, `sizes` or `publish`
abbrev pub is_for_many_files : PlainRequest → Bool
is_for_many_files request = is_many (files_of request.task)

-- as `is_for_many_files`, of a command line
abbrev pub names_many_files : List (List ℕ) → Bool
names_many_files words = option_map_or is_for_many_files (request_of words) false

-- whether a command on one file or two may report something before it ends, by what becomes of prices
abbrev pub reports : Task → Option PriceRule → Bool
reports Round prices = true
reports task prices = is_some prices

-- whether a request may report something before it ends
abbrev pub is_reporting : PlainRequest → Bool
is_reporting request = is_for_many_files request || reports request.task request.prices

-- as `is_reporting`, of a command line
abbrev pub names_reporting : List (List ℕ) → Bool
names_reporting words = option_map_or is_reporting (request_of words) false

-- ---- a report that is lost

-- some prices changed, and standard error has failed behind the report on them
abbrev pub is_lost : {E : Type 0} → ℕ → Watched E → Bool
is_lost changed err_after = nat_lt 0 changed && has_failed err_after

-- the status of a run that comes to this one
abbrev pub status_if_lost : Bool → ℕ → ℕ
status_if_lost lost status = if lost then 5 else status

-- what a run answers if its report on prices is lost: status 5, but a fault stays
abbrev pub answer_if_lost : Bool → Result ℕ RunFault → Result ℕ RunFault
answer_if_lost lost (Ok status) = Ok (status_if_lost lost status)
answer_if_lost lost (Err fault) = Err fault

-- ---- what is sent to a stream for messages

module _ {E : Type 0} (contents : E → Option (List ℕ)) where
  -- the text was sent: whole, or its beginning, in which the stream failed
  pub record SendsText (text : List ℕ) (old new : Watched E) : Type 0 where
    pub answer : Result (Unit {0}) SendFault
    pub sends : Sends contents old new text answer

  -- a text was sent to standard error, or nothing, as that had failed before
  abbrev pub Reports : List ℕ → Watched E → Watched E → Type 0
  Reports text old new = ((has_failed old ≡ true) × (new ≡ old)) ⊎ ((has_failed old ≡ false) × SendsText text old new)

  -- lines were reported, one after the other
  abbrev pub ReportsAll : List (List ℕ) → Watched E → Watched E → Type 0
  ReportsAll [] old new = new ≡ old
  ReportsAll (line ∷ lines) old new = (between : Watched E) × Reports line old between × ReportsAll lines between new
