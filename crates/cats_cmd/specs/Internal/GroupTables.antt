-- What `cats duplicates --table` keeps of the files so far.
use Rattle.std.specs.Prelude.{◌≡◌, ◌+◌, ◌<◌, ℕ, Bool, nat_lt, List, [], ◌∷◌, ◌++◌, length, slice_get, if◌then◌else◌}
use Rattle.std.specs.Prelude.{Vec}
use Rattle.std.specs.Prelude.{Option, Some, None, option_and_then, option_map}
use Rattle.std.specs.Borrow.{Bor}
use Rattle.std.specs.Global.{Global}
use Rattle.bid_file.specs.Files.{PlainFile}
use Rattle.canon.specs.FirstNumbers.{AddsText, TextIndex, text_number}
use Rattle.canon.specs.Unsearched.{unsearched_text}
use Rattle.canon.specs.declared.canon_fault.CanonFault.{CanonFault}
use Rattle.canon.specs.declared.canon_fault.CanonFault.TheVariants.{StepLimit}
use Rattle.cats_cmd.specs.DuplicateTexts.{found_paths}
use Rattle.cats_cmd.specs.DuplicatesTables.{FileGroup, GroupKey, OfHeavy, OfJudged, group_row, group_with, groups_among}
use Rattle.cats_cmd.specs.DuplicatesTables.{shown}
use Rattle.cats_cmd.specs.Internal.Judging.{AddsJudgement}
use Rattle.cats_cmd.specs.declared.duplicates.NumberedFiles.{NumberedFiles}
use Rattle.cats_cmd.specs.declared.duplicates.table.GroupTable.{GroupTable}
use Rattle.cats_cmd.specs.declared.paths.Ending.{Ending}
use Rattle.commands.specs.Judgements.{Judgement, fault_judged}
use Rattle.commands.specs.declared.faults.RunFault.{RunFault}

-- Each text of an index has the group of its key: what is kept with the number of its first file.
pub record KeepsEntries (key : List ℕ
    → GroupKey) (groups : List FileGroup) (index : TextIndex) (found : List (List ℕ × ℕ))
    : Type 0 where
  pub entries : (text : List ℕ) → option_map shown (group_with groups (key text))
      ≡ option_and_then (slice_get found) (text_number index text)
  pub within : (text : List ℕ) (number : ℕ) → text_number index text ≡ Some number → number < length found
  pub count : index.count ≡ length found

-- the same of files as the code has them
abbrev pub KeepsKind : (List ℕ → GroupKey) → List FileGroup → NumberedFiles → Type 0
KeepsKind key groups files = KeepsEntries key groups files.index (found_paths files.found.items)

pub record KeepsGroupTable (table : GroupTable) (judgements : List (List ℕ × Judgement)) : Type 0 where
  pub judged : KeepsKind OfJudged (groups_among judgements) table.judged
  pub heavy : KeepsKind OfHeavy (groups_among judgements) table.heavy
  pub count : table.count ≡ length (groups_among judgements)

-- ---- one more file

-- what is kept with a file at this path, if the first one of its group was there before, and if not
abbrev pub entry_for : Bool → List ℕ → ℕ → List ℕ × ℕ
entry_for is_there path count = if is_there then ([], 0) else (path, count + 1)

-- One more file is kept, which is grouped with the one that has the first number; and how many groups there are then.
pub record NotesFile (path : List ℕ) (first count : ℕ) (old new : List (List ℕ × ℕ)) (more : ℕ) : Type 0 where
  pub entry : new ≡ old ++ entry_for (nat_lt first (length old)) path count ∷ []
  pub is_count : more ≡ (if nat_lt first (length old) then count else count + 1)

-- a file with this text was added
pub record NotesText (text path : List ℕ) (first : ℕ) (old new : NumberedFiles) (count more : ℕ) : Type 0 where
  pub added : AddsText old.index new.index text first
  pub notes : NotesFile path first count (found_paths old.found.items) (found_paths new.found.items) more

-- a file was refused, and added if a step limit refused it
pub record NotesHeavy (path : List ℕ) (file : PlainFile) (old new : GroupTable) (found : Option ℕ) : Type 0 where
  pub first : ℕ
  pub is : found ≡ Some first
  pub notes : NotesText (unsearched_text file) path first old.heavy new.heavy old.count new.count
  pub judged : new.judged ≡ old.judged

abbrev pub NotesRefused : List ℕ → PlainFile → CanonFault → GroupTable → GroupTable → Option ℕ → Type 0
NotesRefused path file (StepLimit goods) old new found = NotesHeavy path file old new found
NotesRefused path file fault old new found = (new ≡ old) × (found ≡ None)

-- what is kept with a number, as it is printed
abbrev pub shown_entry : Option (Bor (Vec ℕ Global × ℕ)) → Option (List ℕ × ℕ)
shown_entry entry = option_map (λ e. (e.now.0.items, e.now.1)) entry

-- the file at a path was judged, or why it was not, and this is its row
pub record AddsRow (ending : Ending) {I : Type 0} (judged : I → I → Judgement → Type 0) (path : List ℕ)
    (old new : GroupTable) (before after : I) (fault : Option RunFault) (text : List ℕ) : Type 0 where
  pub judgement : Judgement
  pub judges : judged before after judgement
  pub adds : AddsJudgement KeepsGroupTable path judgement old new
  pub is_fault : fault ≡ fault_judged judgement
  pub row : (judgements : List (List ℕ × Judgement)) → KeepsGroupTable old judgements
      → text ≡ group_row ending (groups_among (judgements ++ (path, judgement) ∷ [])) path judgement
