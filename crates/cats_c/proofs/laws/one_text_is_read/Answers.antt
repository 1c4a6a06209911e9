-- `one_text_is_read`: the only text of a name is the one that is opened, and all of it is read.
use Rattle.std.proofs.Common.{◌≡◌, ◌≢◌, ◌<◌, ◌++◌, ◌∙◌, ℕ, zero, suc, false, List, [], ◌∷◌, Option, Some, None, Ok, Err, arith, refl, sym, ap, inl, inr, subst}
use Rattle.std.proofs.lemmas.Option.{same_Some}
use Rattle.std.specs.Borrow.{Bor}
use Rattle.std.specs.Global.{Global}
use Rattle.std.specs.Prelude.{Vec, option_and_then, option_map, slice_get}
use Rattle.cats_text.specs.Streams.{inner_of}
use Rattle.commands.specs.Meanings.{outcome_of}
use Rattle.requests.specs.Requests.{PlainRequest}
use Rattle.requests.specs.Tasks.{files_of}
use Rattle.requests.specs.declared.task.Files.{Files}
use Rattle.requests.specs.declared.task.Files.TheVariants.{One}
use Rattle.requests.specs.declared.task.Task.{Task}
use Rattle.requests.specs.declared.task.Task.TheVariants.{Round}
use Rattle.requests.specs.declared.task.TaskRow.{TaskRow}
use Rattle.requests.specs.declared.task.TheConstants.{TASKS}
use Rattle.valuation.specs.declared.search.options.SearchOptions.{SearchOptions}
use Rattle.cats_cmd.proofs.OneText.{fault_fails, run_prints}
use Rattle.cats_cmd.specs.OneText.{PrintsOf}
use Rattle.cats_cmd.specs.BidLists.{RunsOnBids}
use Rattle.cats_cmd.specs.Requests.{AnswersRequest, RunsAt, RunsOnOne, RunsWith}
use Rattle.commands.specs.declared.faults.RunFault.{RunFault}
use Rattle.commands.specs.declared.faults.Unopened.TheVariants.{NoSuchFile}
use Rattle.cats_c.specs.Calls.{Answers, IsTextAt, Output, name_or, names_of, options_of, request_by, request_of, request_with}
use Rattle.cats_c.specs.declared.call.CallRequest.{CallRequest}
use Rattle.cats_c.specs.declared.call.CallText.{CallText}
use Rattle.cats_c.proofs.laws.one_text_is_read.Goals as goal

abbrev left_of : Bor (List ℕ) → Option (List ℕ)
left_of stream = Some stream.now

-- ---- the text that is opened

the_only_text : (text : CallText) (path : List ℕ) (bytes : Bor (List ℕ)) → IsTextAt (text ∷ []) path bytes → bytes ≡ text.bytes
the_only_text text path bytes h = only h.number h.named.text h.named.there h.is
  where
    only : (number : ℕ) (found : CallText) → slice_get (text ∷ []) number ≡ Some found → bytes ≡ found.bytes → bytes ≡ text.bytes
    only zero found there is = cc
    only (suc number) found there is = cc

abbrev printed_of : Vec ℕ Global → Option (List ℕ)
printed_of printed = Some printed.items

-- ---- the request: it has no list, one path, and the bids of the caller

record IsOnText (request : CallRequest) (name : List ℕ) (asked : PlainRequest) : Type 0 where
  list : asked.list ≡ None
  files : asked.files ≡ name ∷ []
  bids : asked.bids ≡ request.bids.now

module _ (request : CallRequest) (name : List ℕ) (asked : PlainRequest) where
  by_options : (row : TaskRow) (options : Option SearchOptions) → option_map (request_with row request (name ∷ [])) options ≡ Some asked
      → IsOnText request name asked
  by_options row None is = cc
  by_options row (Some options) is =
      subst (IsOnText request name) (same_Some (request_with row request (name ∷ []) options) asked is) (record { list = refl; files = refl; bids = refl })

  by_row : (row : Option TaskRow) → option_and_then (λ row. request_by row request (name ∷ [])) row ≡ Some asked → IsOnText request name asked
  by_row None is = cc
  by_row (Some row) is = by_options row (options_of request row.bound) is

-- ---- the answer

module _ (request : CallRequest) (text : CallText) (asked : PlainRequest) (out out_after err err_after : Output) (status : ℕ)
    (success : status < 2) (empty : (inner_of out).items ≡ []) where
  abbrev Printed : Type 0
  Printed = PrintsOf (outcome_of asked request.bids.now false) asked.prices text.bytes.now status (inner_of out_after).items

  opened : (path : List ℕ) (stream : Bor (List ℕ)) → IsTextAt (text ∷ []) path stream → left_of stream ≡ Some text.bytes.now
  opened path stream h = ap left_of (the_only_text text path stream h)

  at_text : (path : List ℕ) → RunsAt (IsTextAt (text ∷ [])) left_of printed_of printed_of path asked.prices (outcome_of asked request.bids.now) out out_after
      err err_after (Ok status) → Printed
  at_text path run =
      let found = run_prints (IsTextAt (text ∷ [])) left_of printed_of printed_of path text.bytes.now (opened path) asked.prices
      (outcome_of asked request.bids.now) out out_after err err_after status success run in
      subst (PrintsOf (outcome_of asked request.bids.now false) asked.prices text.bytes.now status)
      (sym (found.2.appended ∙ ap (λ (front : List ℕ). front ++ found.0) empty)) found.1

  on_bids : (list : Option (List ℕ)) (bids path : List ℕ) → list ≡ None → bids ≡ request.bids.now
      → RunsOnBids (IsTextAt (text ∷ [])) (λ name why. why ≡ NoSuchFile) left_of printed_of
      (λ bids. RunsAt (IsTextAt (text ∷ [])) left_of printed_of printed_of path asked.prices (outcome_of asked bids)) list bids out out_after err err_after
      (Ok status) → Printed
  on_bids None bids path none is run =
      at_text path (subst (λ (bids : List ℕ). RunsAt (IsTextAt (text ∷ [])) left_of printed_of printed_of path asked.prices (outcome_of asked bids) out
      out_after err err_after (Ok status)) is run)
  on_bids (Some list) bids path none is run = cc

  on_one : (task : Task) (path : List ℕ) → task ≢ Round → asked.list ≡ None → asked.bids ≡ request.bids.now
      → RunsOnOne (IsTextAt (text ∷ [])) (λ name why. why ≡ NoSuchFile) left_of printed_of printed_of task asked path out out_after err err_after
      (Ok status) → Printed
  on_one Round path round none bids run = absurd (round refl)
  on_one task path round none bids run = on_bids asked.list asked.bids path none bids run

  abbrev Ran : Files → List (List ℕ) → Type 0
  Ran count files =
      RunsWith (IsTextAt (text ∷ [])) (λ name why. why ≡ NoSuchFile) left_of printed_of printed_of false (λ name found. found ≡ None)
      (λ path why. Unit {0}) None None count files asked out
      out_after err err_after (Ok status)

  ran : (name : List ℕ) → IsOnText request name asked → files_of asked.task ≡ One → asked.task ≢ Round → Ran (files_of asked.task) asked.files → Printed
  ran name on one round run =
      on_one asked.task name round on.list on.bids (subst (Ran One) on.files (subst (λ (count : Files). Ran count asked.files) one run))

  answered : request_of request (names_of (text ∷ [])) ≡ Some asked → files_of asked.task ≡ One → asked.task ≢ Round
      → Answers request (text ∷ []) out out_after err err_after status → Printed
  answered is one round (inl call) = by (same_Some call.asked asked (sym call.is_request ∙ is)) call.answers
    where
      name : List ℕ
      name = name_or text.name.now 1

      no_status : (why : RunFault) → Ok status ≡ Err why → ⊥
      no_status why is = cc

      by : call.asked ≡ asked
          → AnswersRequest (IsTextAt (text ∷ [])) (λ name why. why ≡ NoSuchFile) left_of printed_of printed_of false (λ name found. found ≡ None)
          (λ path why. Unit {0}) None None
          call.asked out out_after err err_after status → Printed
      by same (inl (inl runs)) = ran name (by_row request name asked (slice_get TASKS request.task) is) one round (rw same at runs)
      by same (inl (inr failed)) = absurd (no_status failed.fault failed.is)
      by same (inr fails) = absurd (omega (arith, success, fails.is_status, fault_fails fails.fault))
  answered is one round (inr (inl wrong)) = absurd (omega (arith, success, wrong.is_status))
  answered is one round (inr (inr unasked)) = absurd (omega (arith, success, unasked.0))

pub returns : goal.returns
returns c request text asked out out_new needed err err_new err_needed status is one round (inl both) success =
    let printed = both.prints in (
      both.text,
      both.puts,
      rw printed.is_text
          (answered request text asked printed.out printed.out_after printed.err printed.err_after status success printed.empty.0 is one round
          printed.answers),
    )
returns c request text asked out out_new needed err err_new err_needed status is one round (inr memory) success =
    absurd (omega (arith, success, memory.0))
