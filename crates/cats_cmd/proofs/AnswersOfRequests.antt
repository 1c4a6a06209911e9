-- What holds of each answer to a request: the statuses of a run that answered, what a request that failed has written, and that only
-- `round`, `duplicates`, `sizes` and rounded prices are reported on before they end, or a list of bids that is refused.
use Rattle.cats_cmd.proofs.Common.{◌≡◌, ◌≢◌, ℕ, List, [], ◌∷◌, Option, None, Some, Result, Ok, Err, Bool, false, ◌∙◌, arith, ◌≤◌, refl, sym, ⊎_elim, ◌⊎◌, inl}
use Rattle.cats_cmd.proofs.Common.{inr}
use Rattle.cats_cmd.proofs.Common.{◌||◌, Kind, Device, Watched, CanonFault, Read, StepLimit, Memory, CommandsIfMet}
use Rattle.cats_cmd.proofs.Common.{Prints, CommandsOnBoth, Answer, PricedGives, PricedRefuses, RunsOnBids, outcome_of, PriceRule, is_some}
use Rattle.cats_cmd.proofs.Common.{AnswersRequest, CarriesOut, RunsAt, RunsAtBoth, RunsFor, RunsOnOne, RunsOnTwo, RunsWith, FailsRequest, RunsCommand}
use Rattle.cats_cmd.proofs.Common.{line_of_failure}
use Rattle.cats_cmd.proofs.Common.{NamesFolders}
use Rattle.cats_cmd.proofs.Common.{status_of_canon_fault, status_of_read_fault, Reports, is_for_many_files, is_reporting}
use Rattle.cats_cmd.proofs.Common.{is_many, reports, names_many_files, names_reporting, status_of_fault, RunFault}
use Rattle.cats_cmd.proofs.Common.{Refused, Sent, PlainRequest, Files, One, Two, Many, Task, request_of, Text, Unopened, Unwritten}
use Rattle.cats_cmd.proofs.Common.{RunsOnPair, answer_if_lost, is_lost, max, true, length, rounded_prices, status_if_lost, unwrap_or}
use Rattle.cats_text.specs.declared.read_fault.Kind.TheVariants.{Memory as NoMemory}
use Rattle.requests.specs.Tasks.{files_of}
use Rattle.requests.specs.declared.task.Task.TheVariants.{Round, Compare, Diff}
use Rattle.rounding.specs.Replacements.{price_rule}
use Rattle.rounding.specs.declared.replacement.FinePrices.TheVariants.{Round as RoundFine}
use Rattle.cats_cmd.proofs.AnswersShown.{command_printed, printed}
use Rattle.cats_cmd.proofs.Sending.{pair_facts}
use Rattle.cats_cmd.proofs.PricedInputs.{none_given}
use Rattle.cats_cmd.proofs.QuietFolders.{quiet_rows}
pub use Rattle.cats_cmd.proofs.Statuses.{fault_status_above}
use Rattle.cats_cmd.specs.ComparedFolders.{ComparesFolders, FoundFolders, RunsBelow, RunsOnFolders, takes_folders}

-- ---- a request

-- the rounded text was printed, and its report is not lost
round_printed : (lost : Bool) (status : ℕ) {sent : List ℕ} (text : List ℕ) → Prints (status_if_lost lost 0) sent ≡ Prints status text → status ≢ 5 → status ≤ 1
round_printed true status text is other = let same : 5 ≡ status = cc in absurd (other (sym same))
round_printed false status text is other = let same : 0 ≡ status = cc in omega (arith, same)

-- what is known of a line's request is known of the request
pub few_files : (words : List (List ℕ)) (request : PlainRequest) → request_of words ≡ Some request → names_many_files words ≡ false
    → is_for_many_files request ≡ false
few_files words request asked few = rw asked at few

pub quiet_request : (words : List (List ℕ)) (request : PlainRequest) → request_of words ≡ Some request → names_reporting words ≡ false
    → is_reporting request ≡ false
quiet_request words request asked quiet = rw asked at quiet

-- ---- runs

-- nothing was written, unless it is the output that failed
abbrev IsSilent : {W : Type 0} → RunFault → Watched W → Watched W → Type 0
IsSilent (Sent fault) old new = Unit {0}
IsSilent fault old new = new ≡ old

-- a run that failed has written nothing, unless its output failed
silent_run : {W : Type 0} (contents : W → Option (List ℕ)) (Answers : Result Answer RunFault → Type 0) (old new : Watched W) (fault : RunFault)
    → RunsCommand contents Answers old new (Err fault) → IsSilent fault old new
silent_run contents Answers old new (Sent fault) ran = tt
silent_run contents Answers old new fault ran = ran.1

silent_unless_failed : {W : Type 0} (fault : RunFault) (old new : Watched W) → IsSilent fault old new → (status_of_fault fault ≡ 5 → ⊥) → new ≡ old
silent_unless_failed (Sent fault) old new silent failed = absurd (failed refl)
silent_unless_failed fault old new silent failed = silent

silent_if_same : {W : Type 0} (fault : RunFault) (old new : Watched W) → new ≡ old → IsSilent fault old new
silent_if_same (Sent fault) old new same = tt
silent_if_same fault old new same = same

-- ---- requests

no_answer : (fault : RunFault) (status : ℕ) → Ok status ≡ Err fault → ⊥
no_answer fault status is = cc

-- of a command on two files: if nothing may be reported, prices are read as they are written
quiet_pair : (task : Task) (prices : Option PriceRule) → Two ≡ files_of task → reports task prices ≡ false → is_some prices ≡ false
quiet_pair Compare prices two quiet = quiet
quiet_pair Diff prices two quiet = quiet
quiet_pair task prices two quiet = cc

not_rounded : (prices : Option PriceRule) → is_some prices ≡ false → prices ≡ None
not_rounded None plain = refl
not_rounded (Some rule) plain = cc

module _ {F W E : Type 0} (may_open : List ℕ → F → Type 0) (may_refuse : List ℕ → Unopened → Type 0) (remaining : F → Option (List ℕ))
    (contents : W → Option (List ℕ)) (messages : E → Option (List ℕ)) (terminal : Bool)
    (may_find : List ℕ → Option (List (List ℕ)) → Type 0) (may_not_write : List ℕ → Unwritten → Type 0)
    (known known_after : Option (List Text)) (out out_after : Watched W) (err : Watched E) where
  -- A run on one or two files that answered has the status 0 or 1, or 5, or has written nothing, and has reported nothing if prices are not
  -- rounded. One that failed has written nothing, unless its output failed.
  abbrev Kept : Option PriceRule → Watched E → Result ℕ RunFault → Type 0
  Kept prices err_after (Ok status) =
      (status ≢ 5 → (status ≤ 1) ⊎ (out_after ≡ out)) × (is_some prices ≡ false → status ≤ 1 → err_after ≡ err)
  Kept prices err_after (Err fault) = IsSilent fault out out_after

  -- whether its report is lost or not
  kept_if_lost : (prices : Option PriceRule) (err_after : Watched E) (lost : Bool) (status : ℕ) → status ≤ 1
      → (is_some prices ≡ false → err_after ≡ err) → Kept prices err_after (answer_if_lost lost (Ok status))
  kept_if_lost prices err_after true status most quiet = ((λ other. absurd (other refl)), (λ plain few. absurd (omega (arith, few))))
  kept_if_lost prices err_after false status most quiet = ((λ other. inl most), (λ plain few. quiet plain))

  -- ---- a command on one bid file

  module _ (path : List ℕ) (request : PlainRequest) (err_after : Watched E) where
    abbrev RunsOnNumbers : List ℕ → Result ℕ RunFault → Type 0
    RunsOnNumbers bids answer =
        RunsAt may_open remaining contents messages path request.prices (outcome_of request bids) out out_after err err_after answer

    kept_sent : (bids : List ℕ) (answer sent : Result ℕ RunFault) (ran : RunsOnNumbers bids answer)
        → RunsCommand contents (CommandsIfMet (PricedGives remaining) (PricedRefuses remaining) (outcome_of request bids) ran.before ran.after) out
        out_after sent
        → Kept request.prices err_after (answer_if_lost (is_lost ran.after.rounded.count err_after) sent)
    kept_sent bids answer (Err fault) ran runs =
        silent_run contents (CommandsIfMet (PricedGives remaining) (PricedRefuses remaining) (outcome_of request bids) ran.before ran.after) out out_after
        fault runs
    kept_sent bids answer (Ok status) ran runs =
        let made = runs.answers in
        let most = (printed _ _ _ (command_printed request bids false made.file) made.made).0 in
        let is = runs.is_status in
        kept_if_lost request.prices err_after (is_lost ran.after.rounded.count err_after) status (omega (arith, most, is))
        (λ plain. rw (none_given remaining ran.before ran.after (ran.opened.rule ∙ not_rounded request.prices plain) made.file made.given) at ran.reports)

    kept_at : (bids : List ℕ) (answer : Result ℕ RunFault) → RunsOnNumbers bids answer → Kept request.prices err_after answer
    kept_at bids answer ran = rw ran.answers (kept_sent bids answer ran.sent ran ran.runs)

    -- it runs on the bids in the list, or on those that are given
    kept_on : (list : Option (List ℕ)) (answer : Result ℕ RunFault) → RunsOnBids may_open may_refuse remaining messages
        (λ bids out out_after err err_after answer. RunsAt may_open remaining contents messages path request.prices (outcome_of request bids) out out_after
        err err_after answer) list request.bids out out_after err err_after answer → Kept request.prices err_after answer
    kept_on None answer ran = kept_at request.bids answer ran
    kept_on (Some list) (Err fault) ran = kept_at ran.bids (Err fault) ran.runs
    kept_on (Some list) (Ok status) (inl listed) = kept_at listed.bids (Ok status) listed.runs
    kept_on (Some list) (Ok status) (inr refused) =
        let least = fault_status_above refused.fault in
        let is = refused.is_status in
        ((λ other. inr refused.silent), (λ plain most. absurd (omega (arith, least, is, most))))

  -- ---- a command on two

  abbrev RanOnPair : List ℕ → List ℕ → PlainRequest → Watched E → Result ℕ RunFault → Type 0
  RanOnPair first second request err_after answer =
      RunsAtBoth may_open remaining contents messages first second request out out_after err err_after answer

  sent_both : (first second : List ℕ) (request : PlainRequest) (err_after : Watched E) (answer sent : Result ℕ RunFault)
      (ran : RanOnPair first second request err_after answer)
      → RunsOnPair (PricedGives remaining) (PricedRefuses remaining) (PricedGives remaining) (PricedRefuses remaining) contents request ran.left
      ran.left_after ran.right ran.right_after out out_after sent
      → Kept request.prices err_after (answer_if_lost (is_lost (max ran.left_after.rounded.count ran.right_after.rounded.count) err_after) sent)
  sent_both first second request err_after answer (Err fault) ran runs =
      silent_run contents (CommandsOnBoth (PricedGives remaining) (PricedRefuses remaining) (PricedGives remaining) (PricedRefuses remaining)
      request ran.left ran.left_after ran.right ran.right_after) out out_after fault runs
  sent_both first second request err_after answer (Ok status) ran runs =
      let facts = pair_facts (PricedGives remaining) (PricedRefuses remaining) (PricedGives remaining) (PricedRefuses remaining) ran.left ran.left_after
      ran.right ran.right_after request.task request.options in
      let made = facts.made runs.answer runs.answers in
      let most = made.printed.0 in
      let is = runs.is_status in
      kept_if_lost request.prices err_after (is_lost (max ran.left_after.rounded.count ran.right_after.rounded.count) err_after) status
      (omega (arith, most, is))
      (λ plain.
      let written = not_rounded request.prices plain in
      let one = none_given remaining ran.left ran.left_after (ran.left_opened.rule ∙ written) made.files.0 made.given.0.given in
      let other = none_given remaining ran.right ran.right_after (ran.right_opened.rule ∙ written) made.files.1 made.given.1.given in
      rw other at (rw one at ran.reports))

  kept_both : (first second : List ℕ) (request : PlainRequest) (err_after : Watched E) (answer : Result ℕ RunFault)
      → RanOnPair first second request err_after answer → Kept request.prices err_after answer
  kept_both first second request err_after answer ran =
      rw ran.answers (sent_both first second request err_after answer ran.sent ran ran.runs)

  -- ---- any request

  -- A request for one or two files that answered has the status 0 or 1, or has written nothing. It has reported nothing, unless it is one that
  -- reports. One that failed has written nothing, unless its output failed. What is `Loud` may have written in each case.
  abbrev KeptBy : Type 0 → Files → Task → Option PriceRule → Watched E → Result ℕ RunFault → Type 0
  KeptBy Loud count task prices err_after (Ok status) =
      (is_many count ≡ false → status ≢ 5 → ((status ≤ 1) ⊎ (out_after ≡ out)) ⊎ Loud)
      × ((is_many count || reports task prices) ≡ false → status ≤ 1 → err_after ≡ err)
  KeptBy Loud count task prices err_after (Err fault) = is_many count ≡ false → IsSilent fault out out_after ⊎ Loud

  kept_few : (Loud : Type 0) (count : Files) (task : Task) (prices : Option PriceRule) (err_after : Watched E) (answer : Result ℕ RunFault)
      → ((is_many count || reports task prices) ≡ false → is_some prices ≡ false) → Kept prices err_after answer
      → KeptBy Loud count task prices err_after answer
  kept_few Loud count task prices err_after (Ok status) plain kept = ((λ few other. inl (kept.0 other)), (λ quiet. kept.1 (plain quiet)))
  kept_few Loud count task prices err_after (Err fault) plain kept = λ few. inl kept

  kept_one : (Loud : Type 0) (task : Task) (request : PlainRequest) (path : List ℕ) (err_after : Watched E) (answer : Result ℕ RunFault)
      → RunsOnOne may_open may_refuse remaining contents messages task request path out out_after err err_after answer
      → KeptBy Loud One task request.prices err_after answer
  kept_one Loud Round request path err_after (Ok status) ran = (
    (λ few other. inl (inl (round_printed (is_lost (length (rounded_prices (unwrap_or request.prices
        (price_rule RoundFine 0)) ran.runs.given)) err_after) status
        ran.runs.text ran.runs.made other))),
    (λ plain most. absurd (cc)),
  )
  kept_one Loud Round request path err_after (Err (Refused which fault)) ran = λ few. inl ran.runs.silent
  kept_one Loud Round request path err_after (Err (Sent fault)) ran = λ few. inl tt
  kept_one Loud Round request path err_after (Err fault) ran = absurd ran.runs
  kept_one Loud task request path err_after answer ran =
      kept_few Loud One task request.prices err_after answer (λ quiet. quiet) (kept_on path request err_after request.list answer ran)

  unfit : (Loud : Type 0) (count : Files) (request : PlainRequest) (err_after : Watched E) (answer : Result ℕ RunFault)
      → (answer ≡ Ok 64) × (out_after ≡ out) × (err_after ≡ err) → KeptBy Loud count request.task request.prices err_after answer
  unfit Loud count request err_after (Ok status) ran = ((λ few other. inl (inr ran.1)), (λ quiet most. ran.2))
  unfit Loud count request err_after (Err fault) ran = absurd (no_answer fault 64 (sym ran.0))

  -- ---- two folders

  module _ (first second : List ℕ) (request : PlainRequest) (files : request.files ≡ first ∷ second ∷ []) (takes : takes_folders request.task ≡ true)
      (two : Two ≡ files_of request.task) (err_after : Watched E) where
    abbrev RanOnFolders : Result ℕ RunFault → Type 0
    RanOnFolders answer =
        RunsOnFolders may_open may_refuse remaining contents messages request may_find first second out out_after err err_after answer

    quiet_below : (folders : FoundFolders) (status : ℕ)
        → RunsBelow may_open may_refuse remaining contents messages request folders out out_after err err_after (Ok status)
        → reports request.task request.prices ≡ false → status ≤ 1 → err_after ≡ err
    quiet_below folders status (inl ran) quiet most =
        let written = not_rounded request.prices (quiet_pair request.task request.prices two quiet) in
        quiet_rows may_open may_refuse remaining request folders messages written ran.runs.rows err err_after ran.runs.judges.each
        (rw ran.runs.is_status at most) ran.runs.judges.reports
    quiet_below folders status (inr wants) quiet most = wants.quiet

    kept_folders : (answer : Result ℕ RunFault) → RanOnFolders answer
        → KeptBy (ComparesFolders may_find request) Two request.task request.prices err_after answer
    kept_folders (Ok status) (inl ran) = (
      (λ few other. inr (record { takes = takes; first = first; second = second; is = files; folders = ran.folders; finds = ran.finds })),
      (λ quiet most. quiet_below ran.folders status ran.runs quiet most),
    )
    kept_folders (Err fault) (inl ran) =
        λ few. inr (record { takes = takes; first = first; second = second; is = files; folders = ran.folders; finds = ran.finds })
    kept_folders (Ok status) (inr wants) = ((λ few other. inl (inr wants.silent)), (λ quiet most. wants.quiet))
    kept_folders (Err fault) (inr wants) = λ few. inl (silent_if_same fault out out_after wants.silent)

  kept_two : (first second : List ℕ) (request : PlainRequest) (err_after : Watched E) (answer : Result ℕ RunFault)
      → request.files ≡ first ∷ second ∷ [] → Two ≡ files_of request.task
      → RunsOnTwo may_open may_refuse remaining contents messages may_find first second request out out_after err err_after answer
      → KeptBy (ComparesFolders may_find request) Two request.task request.prices err_after answer
  kept_two first second request err_after answer files two (inl ran) = kept_folders first second request files ran.0 two err_after answer ran.1
  kept_two first second request err_after answer files two (inr ran) =
      kept_few (ComparesFolders may_find request) Two request.task request.prices err_after answer (quiet_pair request.task request.prices two)
      (kept_both first second request err_after answer ran.1)

  kept_with : (count : Files) (files : List (List ℕ)) (request : PlainRequest) (err_after : Watched E) (answer : Result ℕ RunFault)
      → count ≡ files_of request.task → request.files ≡ files
      → RunsWith may_open may_refuse remaining contents messages terminal may_find may_not_write known known_after count files request out out_after err
      err_after answer
      → KeptBy (ComparesFolders may_find request) count request.task request.prices err_after answer
  kept_with Many files request err_after (Ok status) is named ran = ((λ few other. absurd (cc)), (λ quiet most. absurd (cc)))
  kept_with Many files request err_after (Err fault) is named ran = λ few. absurd (cc)
  kept_with One (file ∷ []) request err_after answer is named ran =
      kept_one (ComparesFolders may_find request) request.task request file err_after answer ran
  kept_with Two (first ∷ second ∷ []) request err_after answer is named ran = kept_two first second request err_after answer named is ran
  kept_with count files request err_after answer is named ran = unfit (ComparesFolders may_find request) count request err_after answer ran

  abbrev Ran : PlainRequest → Watched E → Result ℕ RunFault → Type 0
  Ran request err_after answer =
      RunsFor may_open may_refuse remaining contents messages terminal may_find
      may_not_write known known_after request out out_after err err_after answer

  abbrev Carried : PlainRequest → Watched E → Result ℕ RunFault → Type 0
  Carried request err_after answer =
      CarriesOut may_open may_refuse remaining contents messages terminal may_find
      may_not_write known known_after request out out_after err err_after answer

  abbrev Failed : PlainRequest → Watched E → ℕ → Type 0
  Failed request err_after status =
      FailsRequest may_open may_refuse remaining contents messages terminal may_find
      may_not_write known known_after request out out_after err err_after status

  kept_for : (request : PlainRequest) (err_after : Watched E) (answer : Result ℕ RunFault) → Ran request err_after answer
      → KeptBy (ComparesFolders may_find request) (files_of request.task) request.task request.prices err_after answer
  kept_for request err_after answer ran = kept_with (files_of request.task) request.files request err_after answer refl refl ran

  silent_request : (request : PlainRequest) (err_after : Watched E) (fault : RunFault) → Carried request err_after (Err fault)
      → is_for_many_files request ≡ false → IsSilent fault out out_after ⊎ ComparesFolders may_find request
  silent_request request err_after fault (inl ran) few = kept_for request err_after (Err fault) ran few
  silent_request request err_after fault (inr failed) few = inl (silent_if_same fault out out_after failed.silent)

  -- a request that answers has run
  answered : (request : PlainRequest) (err_after : Watched E) (status : ℕ) → Carried request err_after (Ok status) → Ran request err_after (Ok status)
  answered request err_after status (inl ran) = ran
  answered request err_after status (inr failed) = absurd (no_answer failed.fault status failed.is)

  module _ (request : PlainRequest) (err_after : Watched E) (status : ℕ) where
    abbrev Answered : Type 0
    Answered =
        AnswersRequest may_open may_refuse remaining contents messages terminal may_find
        may_not_write known known_after request out out_after err err_after status

    -- a status but 0, 1 and 5 says that nothing was written, or that two folders were compared
    pub silent_answer : Answered → is_for_many_files request ≡ false → status ≢ 0 → status ≢ 1 → status ≢ 5
        → (out_after ≡ out) ⊎ ComparesFolders may_find request
    silent_answer (inl carried) few a b c =
        ⊎_elim (λ (kept : (status ≤ 1) ⊎ (out_after ≡ out)). inl (⊎_elim (λ (most : status ≤ 1). absurd (omega (arith, most, a, b)))
        (λ (silent : out_after ≡ out). silent) kept)) (λ (loud : ComparesFolders may_find request). inr loud)
        ((kept_for request err_after (Ok status) (answered request err_after status carried)).0 few c)
    silent_answer (inr s) few a b c =
        ⊎_elim (λ (silent : IsSilent s.fault out out_after). inl (silent_unless_failed s.fault out out_after silent (λ five. c (s.is_status ∙ five))))
        (λ (loud : ComparesFolders may_find request). inr loud) (silent_request request s.between s.fault s.carries few)

    -- the statuses 0 and 1 say that nothing was reported
    pub done_answer : Answered → is_reporting request ≡ false → status ≤ 1 → err_after ≡ err
    done_answer (inl carried) few most = (kept_for request err_after (Ok status) (answered request err_after status carried)).1 few most
    done_answer (inr s) few most = let least = fault_status_above s.fault in let is = s.is_status in absurd (omega (arith, least, is, most))

  pub failed_request : (request : PlainRequest) (fault : RunFault) (between err_after : Watched E) (status : ℕ) → Carried request between (Err fault)
      → Reports messages (line_of_failure request fault) between err_after → status ≡ status_of_fault fault → Failed request err_after status
  failed_request request fault between err_after status carries reports is =
      record { fault = fault; between = between; carries = carries; reports = reports; is_status = is }

-- what a request has written is what its line has
pub silent_line : (Silent : Type 0) (may_find : List ℕ → Option (List (List ℕ)) → Type 0) (words : List (List ℕ)) (request : PlainRequest) (status : ℕ)
    → request_of words ≡ Some request
    → (is_for_many_files request ≡ false → status ≢ 0 → status ≢ 1 → status ≢ 5 → Silent ⊎ ComparesFolders may_find request)
    → names_many_files words ≡ false → status ≢ 0 → status ≢ 1 → status ≢ 5 → Silent ⊎ NamesFolders may_find words
silent_line Silent may_find words request status asked silent few a b c =
    ⊎_elim (λ (quiet : Silent). inl quiet)
    (λ (compares : ComparesFolders may_find request). inr (record { request = request; asked = asked; compares = compares }))
    (silent (few_files words request asked few) a b c)
