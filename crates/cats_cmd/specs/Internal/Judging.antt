-- Judging the file at one path of many. The definitions say what it does, and what is kept.
use Rattle.std.specs.Prelude.{◌≡◌, ◌≤◌, ◌+◌, ℕ, Bool, List, [], ◌∷◌, ◌++◌, length, map, Option, Result, Ok, Err, Vec}
use Rattle.std.specs.Global.{Global}
use Rattle.std.specs.declared.alloc.AllocError.{AllocError}
use Rattle.cats_text.specs.declared.stream.Watched.{Watched}
use Rattle.bid_file.specs.Files.{PlainFile}
use Rattle.rounding.specs.declared.replacement.PriceRule.{PriceRule}
use Rattle.valuation.specs.declared.search.options.SearchOptions.{SearchOptions}
use Rattle.canon.specs.FirstNumbers.{IsIndexOf, TextIndex}
use Rattle.canon.specs.Canonical.{canonical_text}
use Rattle.canon.specs.Sameness.{AreSameFiles}
use Rattle.canon.specs.Unsearched.{AreAlike, unsearched_text}
use Rattle.cats_cmd.specs.DuplicateTexts.{found_paths}
use Rattle.cats_cmd.specs.Duplicates.{FindsNumbers, heavy_files, heavy_paths, judged_files, judged_paths}
use Rattle.cats_cmd.specs.declared.priced_input.RoundedCount.{RoundedCount}
use Rattle.cats_cmd.specs.declared.duplicates.Groups.{Groups}
use Rattle.cats_cmd.specs.declared.fault.Faults.{Faults}
use Rattle.cats_cmd.specs.FindingFaults.{faults_text}
use Rattle.cats_cmd.specs.Opening.{Opening, Opens, OpensFirst, openings_of}
use Rattle.commands.specs.declared.faults.HeavyBid.{HeavyBid}
use Rattle.canon.specs.declared.canon_fault.CanonFault.{CanonFault}
use Rattle.canon.specs.declared.canon_fault.CanonFault.TheVariants.{StepLimit}
use Rattle.cats_cmd.specs.Paths.{EndsOnPaths, JudgesAs, JudgesPaths, Made, Reporting, ReportsPath, greatest_status}
use Rattle.cats_cmd.specs.Paths.{bytes_counted, judgement_at, lines_on, progress_lines, status_if}
use Rattle.cats_cmd.specs.Stores.{Attempt}
use Rattle.cats_cmd.specs.declared.paths.FilePath.{FilePath}
use Rattle.cats_cmd.specs.declared.paths.Judged.{Judged}
use Rattle.cats_text.specs.Streams.{SendsPart, SendsWhole}
use Rattle.commands.specs.Statuses.{status_of_fault}
use Rattle.commands.specs.declared.faults.RunFault.TheVariants.{Sent}
use Rattle.cats_cmd.specs.Reports.{ReportsAll}
use Rattle.commands.specs.declared.faults.Unopened.{Unopened}
use Rattle.commands.specs.Judgements.{Judgement, IsHeavy, IsUnjudged, fault_judged}
use Rattle.commands.specs.declared.faults.RunFault.{RunFault}

-- an index of files at some paths by a text of each, and what was found of them
pub record KeepsNumbers (text_of : PlainFile → List ℕ) (Related : PlainFile → PlainFile → Type 0)
    (paths : List (List ℕ)) (files : List PlainFile) (index : TextIndex) (found : List (List ℕ × ℕ)) : Type 0 where
  pub is_index : IsIndexOf text_of index files
  pub finds : FindsNumbers Related paths files found

abbrev pub KeepsJudged : List (List ℕ × Judgement) → TextIndex → List (List ℕ × ℕ) → Type 0
KeepsJudged judgements index found =
    KeepsNumbers canonical_text AreSameFiles (judged_paths judgements) (judged_files judgements) index found

abbrev pub KeepsHeavy : List (List ℕ × Judgement) → TextIndex → List (List ℕ × ℕ) → Type 0
KeepsHeavy judgements index found =
    KeepsNumbers unsearched_text AreAlike (heavy_paths judgements) (heavy_files judgements) index found

-- what `cats duplicates` keeps
pub record KeepsGroups (groups : Groups) (judgements : List (List ℕ × Judgement)) : Type 0 where
  pub judged : KeepsJudged judgements groups.judged.index (found_paths groups.judged.found.items)
  pub heavy : KeepsHeavy judgements groups.heavy.index (found_paths groups.heavy.found.items)

-- what `cats fault` keeps
abbrev pub KeepsFaults : Faults → List (List ℕ × Judgement) → Type 0
KeepsFaults faults judgements = faults.text.items ≡ faults_text judgements

-- What is kept, in the words of the collection that keeps it: `Has` says of which files' judgements it is.
module _ {C : Type 0} (Has : C → List (List ℕ × Judgement) → Type 0) where
  pub record HasSome (kept : C) : Type 0 where
    pub judgements : List (List ℕ × Judgement)
    pub has : Has kept judgements

  abbrev pub AddsJudgement : List ℕ → Judgement → C → C → Type 0
  AddsJudgement path judgement old new = (judgements : List (List ℕ × Judgement)) → Has old judgements
      → Has new (judgements ++ (path, judgement) ∷ [])

  -- The file at the path was refused for this fault. It is kept where a step limit refused it.
  abbrev pub AddsRefusedTo : List ℕ → PlainFile → CanonFault → C → C → Type 0
  AddsRefusedTo path file (StepLimit goods) old new = (heavy : HeavyBid) → AddsJudgement path (IsHeavy file heavy) old
      new
  AddsRefusedTo path file fault old new = (why : RunFault) → AddsJudgement path (IsUnjudged why) old new

  -- the stream was judged, and this is why it was not
  pub record AddsStream {I : Type 0} (judged : I → I → Judgement → Type 0) (path : List ℕ) (old new : C)
      (before after : I) (fault : Option RunFault) : Type 0 where
    pub judgement : Judgement
    pub judges : judged before after judgement
    pub adds : AddsJudgement path judgement old new
    pub is_fault : fault ≡ fault_judged judgement

  -- `Shows` says what is printed and written of the files so far, and `Wrote` what a step has written.
  module _ (Shows : List (List ℕ × Judgement) → List ℕ → List Attempt → Type 0) where
    -- this is printed and written of one file more
    abbrev pub ShowsNext : List ℕ → Judgement → List ℕ → List Attempt → C → Type 0
    ShowsNext path judgement text more kept = (judgements : List (List ℕ × Judgement)) (printed : List ℕ)
        (attempts : List Attempt) → Has kept judgements → Shows judgements printed attempts
        → Shows (judgements ++ (path, judgement) ∷ []) (printed ++ text) (attempts ++ more)

    module _ (Wrote : List Attempt → Type 0) where
      -- the stream was judged, and this text is printed of it
      pub record AddsOpened {I : Type 0} (judged : I → I → Judgement → Type 0) (path : List ℕ) (old new : C)
          (before after : I) (fault : Option RunFault) (text : List ℕ) : Type 0 where
        pub stream : AddsStream judged path old new before after fault
        pub more : List Attempt
        pub wrote : Wrote more
        pub shows : ShowsNext path stream.judgement text more old

      module _ {F : Type 0} (may_open : List ℕ → F → Type 0) (may_refuse : List ℕ → Unopened → Type 0)
          (remaining : F → Option (List ℕ)) (options : Option SearchOptions) (prices : Option PriceRule) where
        -- the file at the path was judged, and so many of its prices were rounded
        pub record AddsFile (path : List ℕ) (old new : C) (rounded : RoundedCount) (fault : Option RunFault)
            (text : List ℕ) : Type 0 where
          pub judgement : Judgement
          pub judges : JudgesAs may_open may_refuse remaining options prices path rounded judgement
          pub adds : AddsJudgement path judgement old new
          pub is_fault : fault ≡ fault_judged judgement
          pub more : List Attempt
          pub wrote : Wrote more
          pub shows : ShowsNext path judgement text more old

        -- the file at the path with this number, among so many, was judged and reported
        pub record AddsPath {E : Type 0} (messages : E → Option (List ℕ)) (reporting : Reporting) (count number : ℕ)
            (path : List ℕ) (old new : C) (err err_after : Watched E) (status : ℕ) (text : List ℕ) : Type 0 where
          pub judgement : Judgement
          pub rounded : RoundedCount
          pub lost : Bool
          pub judges : JudgesAs may_open may_refuse remaining options prices path rounded judgement
          pub adds : AddsJudgement path judgement old new
          pub more : List Attempt
          pub wrote : Wrote more
          pub shows : ShowsNext path judgement text more old
          pub reports : ReportsAll messages
              (lines_on reporting count number path rounded (fault_judged judgement)) err err_after
          pub path_reports : ReportsPath messages reporting count number
              (record { path = path; judgement = judgement; rounded = rounded; lost = lost }) err err_after
          pub is_status : status ≡ status_if lost (fault_judged judgement)

        -- memory was refused, when the path had been named and nothing was written
        pub record StopsAtPath {E : Type 0} (messages : E → Option (List ℕ)) (reporting : Reporting) (count number : ℕ)
            (path : List ℕ) (err err_after : Watched E) : Type 0 where
          pub named : ReportsAll messages (progress_lines reporting.progress number count path) err err_after
          pub wrote : Wrote []

        abbrev pub AddsPathAs : {E : Type 0} → (E → Option (List ℕ)) → Reporting → ℕ → ℕ → List ℕ → C → C → Watched E
            → Watched E → Result (ℕ × Vec ℕ Global) AllocError → Type 0
        AddsPathAs messages reporting count number path old new err err_after (Ok added) =
            AddsPath messages reporting count number path old new err err_after added.0 added.1.items
        AddsPathAs messages reporting count number path old new err err_after (Err e) =
            StopsAtPath messages reporting count number path err err_after

        module _ {W E : Type 0} (contents : W → Option (List ℕ)) (messages : E → Option (List ℕ))
            (reporting : Reporting) where
          -- so far, since the run began
          pub record HasJudged (count : ℕ) (paths : List (List ℕ)) (kept : C) (out out_after : Watched W)
              (err err_after : Watched E) (greatest sent : ℕ) : Type 0 where
            pub made : Made
            pub judges : JudgesPaths may_open may_refuse remaining messages options prices reporting count paths err
                err_after made.judged
            pub has : Has kept (map judgement_at made.judged)
            pub shows : Shows (map judgement_at made.judged) made.text made.attempts
            pub wrote : Wrote made.attempts
            pub sends : SendsWhole contents out out_after made.text
            pub is_greatest : greatest ≡ greatest_status made.judged
            pub is_sent : sent ≡ bytes_counted (length made.text)

          -- the files at all paths; or those at the first of them, when memory is refused or the output fails
          abbrev pub JudgesAllAs : List (List ℕ) → C → Watched W → Watched W → Watched E → Watched E
              → Result Judged RunFault → Type 0
          JudgesAllAs paths kept out out_after err err_after (Ok judged) =
              HasJudged (length paths) paths kept out out_after err err_after judged.greatest judged.sent
          JudgesAllAs paths kept out out_after err err_after (Err fault) =
              EndsOnPaths may_open may_refuse remaining contents messages options prices Shows Wrote paths reporting out
              out_after err err_after fault

-- ---- what is sent

module _ {W : Type 0} (contents : W → Option (List ℕ)) where
  -- A text was sent behind so many bytes, and how many there are then. A fault of the output counts all that were sent.
  abbrev pub SendsNext : ℕ → List ℕ → Watched W → Watched W → Result ℕ RunFault → Type 0
  SendsNext sent text old new (Ok all) = (all ≡ bytes_counted (sent + length text)) × SendsWhole contents old new text
  SendsNext sent text old new (Err (Sent fault)) =
      (written : ℕ) × (fault.written ≡ bytes_counted (sent + written)) × SendsPart contents old new text written
  SendsNext sent text old new (Err fault) = ⊥

  -- what is printed before all files was sent
  pub record BeginsRun (Shows : List (List ℕ × Judgement) → List ℕ → List Attempt → Type 0) (start old : Watched W)
      (printed : List ℕ) (sent : ℕ) : Type 0 where
    pub sends : SendsWhole contents start old printed
    pub shows : Shows [] printed []
    pub is_sent : sent ≡ bytes_counted (length printed)

abbrev pub AddsRefused : List ℕ → PlainFile → CanonFault → Groups → Groups → Type 0
AddsRefused path file fault old new = AddsRefusedTo KeepsGroups path file fault old new

-- the path of a file, and how it is opened
abbrev pub opening_of : FilePath → Opening
opening_of file = (file.path.now, file.way)

-- all openings were made, or, when the run is stopped, the first of them
abbrev pub OpensAllAs : {S H : Type 0} → (S → H) → (S → Option (List Opening)) → List Opening → S → S
    → Result Judged RunFault → Type 0
OpensAllAs content_of opened openings old new (Ok judged) = Opens content_of opened old new (openings_of openings)
OpensAllAs content_of opened openings old new (Err fault) =
    (4 ≤ status_of_fault fault) × OpensFirst content_of opened old new openings
