-- The contract of a run on many files. It has what became of each file, what is reported, and what is printed and
-- written.
use Rattle.std.specs.Prelude.{◌≡◌, ◌⊎◌, ◌-◌, ◌^◌, ℕ, suc, max, min, Bool, false, slice_get}
use Rattle.std.specs.Prelude.{List, [], ◌∷◌, ◌++◌, length, fold, map, take}
use Rattle.std.specs.Prelude.{Option, Some, None, Result, Ok, Err, codes, decimal}
use Rattle.std.specs.List.{AllByRecursion}
use Rattle.std.specs.Str.{IsUtf8}
use Rattle.valuation.specs.declared.search.options.SearchOptions.{SearchOptions}
use Rattle.cats_text.specs.declared.stream.Watched.{Watched}
use Rattle.canon.specs.declared.canon_fault.CanonFault.{CanonFault}
use Rattle.canon.specs.declared.canon_fault.CanonFault.TheVariants.{Memory}
use Rattle.canon.specs.declared.which.Which.{Which}
use Rattle.canon.specs.declared.which.Which.TheVariants.{Only}
use Rattle.rounding.specs.declared.replacement.PriceRule.{PriceRule}
use Rattle.commands.specs.Outcomes.{Outcome, Prints}
use Rattle.cats_cmd.specs.Escaping.{escaped}
use Rattle.cats_cmd.specs.PricedInputs.{IsPriced, JudgesStream, none_rounded, rounding_lines}
use Rattle.cats_cmd.specs.declared.priced_input.PricedInput.{PricedInput}
use Rattle.cats_cmd.specs.declared.priced_input.RoundedCount.{RoundedCount}
use Rattle.cats_cmd.specs.Runs.{WritesText}
use Rattle.cats_cmd.specs.Stores.{Attempt}
use Rattle.cats_text.specs.Streams.{SendsPart, SendsWhole}
use Rattle.cats_cmd.specs.Reports.{ReportsAll, is_lost, status_if_lost}
use Rattle.cats_cmd.specs.declared.paths.Progress.{Progress}
use Rattle.cats_cmd.specs.declared.paths.Progress.TheVariants.{Silent, Lines, Terminal}
use Rattle.commands.specs.declared.faults.Unopened.{Unopened}
use Rattle.commands.specs.declared.faults.Unopened.TheVariants.{Other}
use Rattle.commands.specs.declared.faults.RunFault.{RunFault}
use Rattle.commands.specs.declared.faults.RunFault.TheVariants.{Refused, Sent, NotOpened}
use Rattle.commands.specs.Statuses.{status_of_fault}
use Rattle.commands.specs.FaultLines.{line_of_fault}
use Rattle.commands.specs.Judgements.{Judgement, IsUnjudged, fault_judged}

-- what became of the file at a path, its rounded prices, and whether the report on them is lost
pub record JudgedPath : Type 0 where
  pub path : List ℕ
  pub judgement : Judgement
  pub rounded : RoundedCount
  pub lost : Bool

-- what became of the file at a path, with no report lost
abbrev pub judged_path : List ℕ → Judgement → RoundedCount → JudgedPath
judged_path path judgement rounded = record { path = path; judgement = judgement; rounded = rounded; lost = false }

abbrev pub judgement_at : JudgedPath → List ℕ × Judgement
judgement_at judged = (judged.path, judged.judgement)

-- of a file that was judged the status says whether the report is lost, and of another one why it was not
abbrev pub status_if : Bool → Option RunFault → ℕ
status_if lost None = status_if_lost lost 0
status_if lost (Some fault) = status_of_fault fault

-- the status of a file: 0; 5 if a report is lost; or that of its fault
abbrev pub status_of_path : JudgedPath → ℕ
status_of_path judged = status_if judged.lost (fault_judged judged.judgement)

-- the greatest status of judged files
abbrev pub greatest_status : List JudgedPath → ℕ
greatest_status judged = fold (λ greatest j. max greatest (status_of_path j)) 0 judged

-- ---- what is reported

-- the line that says why a file was not judged
abbrev pub refusal_line : List ℕ → RunFault → List ℕ
refusal_line path fault = escaped path ++ codes ": " ++ line_of_fault fault

-- which file is read, and of how many it is
abbrev pub turn_text : ℕ → ℕ → List ℕ → List ℕ
turn_text number count path = decimal number ++ codes " of " ++ decimal count ++ codes " " ++ escaped path

-- the line of `--progress` before the file at a path is read
abbrev pub progress_line : ℕ → ℕ → List ℕ → List ℕ
progress_line number count path = turn_text number count path ++ codes "\n"

-- what keeps a terminal from wrapping a line that is too long, and what ends that
abbrev pub unwrapped : List ℕ
unwrapped = 27 ∷ codes "[?7l"

abbrev pub wrapped : List ℕ
wrapped = 27 ∷ codes "[?7h"

-- the same on a terminal, so that it is one line there
abbrev pub terminal_line : ℕ → ℕ → List ℕ → List ℕ
terminal_line number count path = unwrapped ++ turn_text number count path ++ wrapped ++ codes "\n"

abbrev pub refusal_lines : List ℕ → Option RunFault → List (List ℕ)
refusal_lines path None = []
refusal_lines path (Some fault) = refusal_line path fault ∷ []

-- what removes the line above: the cursor moves up, and the line is erased
abbrev pub line_removal : List ℕ
line_removal = 27 ∷ codes "[A" ++ 27 ∷ codes "[K"

-- what `--progress` reports before a path
abbrev pub progress_lines : Progress → ℕ → ℕ → List ℕ → List (List ℕ)
progress_lines Silent number count path = []
progress_lines Lines number count path = progress_line number count path ∷ []
progress_lines Terminal number count path = terminal_line number count path ∷ []

-- once its file is read, a terminal no longer shows the path
abbrev pub removal_lines : Progress → List (List ℕ)
removal_lines Silent = []
removal_lines Lines = []
removal_lines Terminal = line_removal ∷ []

-- what a run reports: of a path, why its file was not judged, and how many files were read
pub record Reporting : Type 0 where
  pub refusals : List ℕ → Option RunFault → List (List ℕ)
  pub progress : Progress

-- a run that reports each refused file, as `duplicates`
abbrev pub with_refusals : Progress → Reporting
with_refusals progress = record { refusals = refusal_lines; progress = progress }

-- a run that does not report refused files, as `sizes`
abbrev pub without_refusals : Progress → Reporting
without_refusals progress = record { refusals = λ path fault. []; progress = progress }

-- of the path with this number, among so many: that it is read, how many prices of its file were rounded, and why it
-- was not judged
abbrev pub lines_on : Reporting → ℕ → ℕ → List ℕ → RoundedCount → Option RunFault → List (List ℕ)
lines_on reporting count number path rounded fault = progress_lines reporting.progress number count path
    ++ removal_lines reporting.progress ++ rounding_lines path rounded ++ reporting.refusals path fault

abbrev pub lines_of_path : Reporting → ℕ → ℕ → JudgedPath → List (List ℕ)
lines_of_path reporting count number judged =
    lines_on reporting count number judged.path judged.rounded (fault_judged judged.judgement)

-- of paths of which the first has this number
abbrev pub lines_from : Reporting → ℕ → ℕ → List JudgedPath → List (List ℕ)
lines_from reporting count number [] = []
lines_from reporting count number (judged ∷ rest) =
    lines_of_path reporting count number judged ++ lines_from reporting count (suc number) rest

-- all lines that are reported of judged files
abbrev pub report_lines : Reporting → ℕ → List JudgedPath → List (List ℕ)
report_lines reporting count judged = lines_from reporting count 1 judged

module _ {E : Type 0} (messages : E → Option (List ℕ)) (reporting : Reporting) (count : ℕ) where
  -- of the path with this number, up to how many of its prices were rounded, unless that is lost, and then the rest
  pub record ReportsPath (number : ℕ) (judged : JudgedPath) (old new : Watched E) : Type 0 where
    pub between : Watched E
    pub roundings : ReportsAll messages (progress_lines reporting.progress number count judged.path
        ++ removal_lines reporting.progress ++ rounding_lines judged.path judged.rounded) old between
    pub loses : judged.lost ≡ is_lost judged.rounded.count between
    pub others : ReportsAll messages (reporting.refusals judged.path (fault_judged judged.judgement)) between new

  -- all lines on files were reported, from the file with this number on
  abbrev pub ReportsFrom : ℕ → List JudgedPath → Watched E → Watched E → Type 0
  ReportsFrom number [] old new = new ≡ old
  ReportsFrom number (judged ∷ rest) old new =
      (between : Watched E) × ReportsPath number judged old between × ReportsFrom (suc number) rest between new

-- ---- the file at a path

-- no file was opened at the path, for this reason: it may be refused, or it is not UTF-8
abbrev pub IsUnopened : (List ℕ → Unopened → Type 0) → List ℕ → Unopened → Type 0
IsUnopened may_refuse path why = may_refuse path why ⊎ ((why ≡ Other) × (IsUtf8 path → ⊥))

module _ {F : Type 0} (may_open : List ℕ → F → Type 0) (may_refuse : List ℕ → Unopened → Type 0) (remaining : F
    → Option (List ℕ))
    (options : Option SearchOptions) (prices : Option PriceRule) where
  -- this became of a stream that was opened at the path
  pub record JudgesOpened (path : List ℕ) (judgement : Judgement) (rounded : RoundedCount) : Type 0 where
    pub before : PricedInput F
    pub after : PricedInput F
    pub opened : IsPriced may_open prices path before
    pub judges : JudgesStream remaining options before after judgement
    pub count : rounded ≡ after.rounded

  abbrev pub JudgesAs : List ℕ → RoundedCount → Judgement → Type 0
  JudgesAs path rounded (IsUnjudged (NotOpened which why)) =
      (which ≡ Only) × IsUnopened may_refuse path why × (rounded ≡ none_rounded)
  JudgesAs path rounded judgement = JudgesOpened path judgement rounded

  abbrev pub Judges : JudgedPath → Type 0
  Judges judged = JudgesAs judged.path judged.rounded judged.judgement

-- ---- the files at all paths

-- what became of the file at each path, what is printed of them, and the texts that were to be written
pub record Made : Type 0 where
  pub judged : List JudgedPath
  pub text : List ℕ
  pub attempts : List Attempt

module _ {F E : Type 0} (may_open : List ℕ → F → Type 0) (may_refuse : List ℕ → Unopened → Type 0)
    (remaining : F → Option (List ℕ)) (messages : E → Option (List ℕ)) (options : Option SearchOptions)
    (prices : Option PriceRule) (reporting : Reporting) where
  -- this became of the files at these paths, which are the first of so many, and it was reported
  pub record JudgesPaths (count : ℕ) (paths : List (List ℕ)) (err err_after : Watched E)
      (judged : List JudgedPath) : Type 0 where
    pub of_paths : map (λ j. j.path) judged ≡ paths
    pub each : AllByRecursion (Judges may_open may_refuse remaining options prices) judged
    pub reports : ReportsAll messages (report_lines reporting count judged) err err_after
    pub each_reports : ReportsFrom messages reporting count 1 judged err err_after

  -- the file at the path behind so many was named, or nothing was reported of it
  abbrev pub BeginsNext : List (List ℕ) → ℕ → Watched E → Watched E → Type 0
  BeginsNext paths count err err_after = (err_after ≡ err) ⊎ ((path : List ℕ) × (slice_get paths count ≡ Some path)
      × ReportsAll messages (progress_lines reporting.progress (suc count) (length paths) path) err err_after)

  -- this became of the files at the first of the paths, and the next may have been begun
  pub record BeginsPaths (paths : List (List ℕ)) (err err_after : Watched E) (judged : List JudgedPath) : Type 0 where
    pub count : ℕ
    pub between : Watched E
    pub judges : JudgesPaths (length paths) (take count paths) err between judged
    pub begins : BeginsNext paths count between err_after

-- ---- the run

abbrev pub outcome_of_paths : Made → Outcome
outcome_of_paths made = Prints (greatest_status made.judged) made.text

-- how many bytes were written, as far as it is counted
abbrev pub bytes_counted : ℕ → ℕ
bytes_counted count = min count (2 ^ 64 - 1)

-- so is printed, and no text is written
abbrev pub PrintsOnly : (List (List ℕ × Judgement) → List ℕ → Type 0) → List (List ℕ × Judgement) → List ℕ
    → List Attempt → Type 0
PrintsOnly Makes judgements printed attempts = Makes judgements printed × (attempts ≡ [])

-- nothing is printed yet
abbrev pub PrintsNothing : List (List ℕ × Judgement) → List ℕ → List Attempt → Type 0
PrintsNothing = PrintsOnly (λ judgements text. text ≡ [])

-- `Shows` says what is printed and written of what became of the first files, and `Wrote` which texts were written.
module _ {F W E : Type 0} (may_open : List ℕ → F → Type 0) (may_refuse : List ℕ → Unopened → Type 0)
    (remaining : F → Option (List ℕ)) (contents : W → Option (List ℕ)) (messages : E → Option (List ℕ))
    (options : Option SearchOptions) (prices : Option PriceRule)
    (Shows : List (List ℕ × Judgement) → List ℕ → List Attempt → Type 0) (Wrote : List Attempt → Type 0)
    (paths : List (List ℕ)) (reporting : Reporting) where
  -- this was made of the files at the first of the paths
  pub record ShowsOfPaths (err err_after : Watched E) (made : Made) : Type 0 where
    pub begins : BeginsPaths may_open may_refuse remaining messages options prices reporting paths err err_after
        made.judged
    pub shows : Shows (map judgement_at made.judged) made.text made.attempts
    pub wrote : Wrote made.attempts

  -- memory was refused to all files together; what was made of the first of them is printed
  pub record RefusesPaths (out out_after : Watched W) (err err_after : Watched E) (which : Which) (fault : CanonFault)
      : Type 0 where
    pub only : which ≡ Only
    pub memory : fault ≡ Memory
    pub made : Made
    pub shows : ShowsOfPaths err err_after made
    pub sends : SendsWhole contents out out_after made.text

  -- the output failed in what was made of the first of the files
  pub record FailsOnPaths (out out_after : Watched W) (err err_after : Watched E) (written : ℕ) : Type 0 where
    pub made : Made
    pub shows : ShowsOfPaths err err_after made
    pub count : ℕ
    pub is_counted : written ≡ bytes_counted count
    pub sent : SendsPart contents out out_after made.text count

  -- a run ends so before all files were judged
  abbrev pub EndsOnPaths : Watched W → Watched W → Watched E → Watched E → RunFault → Type 0
  EndsOnPaths out out_after err err_after (Refused which fault) = RefusesPaths out out_after err err_after which fault
  EndsOnPaths out out_after err err_after (Sent fault) = FailsOnPaths out out_after err err_after fault.written
  EndsOnPaths out out_after err err_after fault = ⊥

  -- `Makes` says what is printed and written of what became of all files.
  module _ (Makes : List (List ℕ × Judgement) → List ℕ → List Attempt → Type 0) where
    pub record MakesOfPaths (err err_after : Watched E) (made : Made) : Type 0 where
      pub judges : JudgesPaths may_open may_refuse remaining messages options prices reporting (length paths) paths err
          err_after made.judged
      pub makes : Makes (map judgement_at made.judged) made.text made.attempts
      pub wrote : Wrote made.attempts

    -- the output failed in what was made of all files
    pub record FailsAtEnd (out out_after : Watched W) (err err_after : Watched E) (written : ℕ) : Type 0 where
      pub made : Made
      pub makes : MakesOfPaths err err_after made
      pub count : ℕ
      pub is_counted : written ≡ bytes_counted count
      pub sent : SendsPart contents out out_after made.text count

    -- a run ends with this fault
    abbrev pub FailsRun : Watched W → Watched W → Watched E → Watched E → RunFault → Type 0
    FailsRun out out_after err err_after (Refused which fault) =
        RefusesPaths out out_after err err_after which fault
        ⊎ ((which ≡ Only) × (fault ≡ Memory) × (out_after ≡ out) × (err_after ≡ err) × Wrote [])
    FailsRun out out_after err err_after (Sent fault) = FailsOnPaths out out_after err err_after fault.written
        ⊎ FailsAtEnd out out_after err err_after fault.written
    FailsRun out out_after err err_after fault = ⊥

    -- the contract of the run, from its output and standard error before to those after it
    abbrev pub RunsOnPaths : Watched W → Watched W → Watched E → Watched E → Result ℕ RunFault → Type 0
    RunsOnPaths out out_after err err_after (Ok status) =
        WritesText contents (MakesOfPaths err err_after) outcome_of_paths out out_after status
    RunsOnPaths out out_after err err_after (Err fault) = FailsRun out out_after err err_after fault
