-- What `cats duplicates` finds among files.
use Rattle.std.specs.Prelude.{◌≡◌, ℕ, Bool, List, [], ◌∷◌, map}
use Rattle.std.specs.List.{AllZip, flat_map}
use Rattle.bid_file.specs.Files.{PlainFile}
use Rattle.canon.specs.FirstNumbers.{IsFirstNumber}
use Rattle.canon.specs.Sameness.{AreSameFiles}
use Rattle.canon.specs.Unsearched.{AreAlike}
use Rattle.cats_cmd.specs.DuplicateTexts.{duplicates_text}
use Rattle.cats_cmd.specs.declared.paths.Ending.{Ending}
use Rattle.commands.specs.Judgements.{Judgement, IsJudged, IsHeavy, IsUnjudged, IsPublished, IsRead}

abbrev pub files_if_judged : Judgement → List PlainFile
files_if_judged (IsJudged file) = file ∷ []
files_if_judged (IsHeavy file heavy) = []
files_if_judged (IsUnjudged fault) = []
files_if_judged (IsRead answer) = []
files_if_judged (IsPublished file publishing) = file ∷ []

abbrev pub paths_if_judged : List ℕ → Judgement → List (List ℕ)
paths_if_judged path (IsJudged file) = path ∷ []
paths_if_judged path (IsHeavy file heavy) = []
paths_if_judged path (IsUnjudged fault) = []
paths_if_judged path (IsRead answer) = []
paths_if_judged path (IsPublished file publishing) = path ∷ []

-- the files that were judged, in order
abbrev pub judged_files : List (List ℕ × Judgement) → List PlainFile
judged_files judgements = flat_map (λ j. files_if_judged j.1) judgements

-- the paths of judged files
abbrev pub judged_paths : List (List ℕ × Judgement) → List (List ℕ)
judged_paths judgements = flat_map (λ j. paths_if_judged j.0 j.1) judgements

-- the file that a step limit refused
abbrev pub files_if_heavy : Judgement → List PlainFile
files_if_heavy (IsJudged file) = []
files_if_heavy (IsHeavy file heavy) = file ∷ []
files_if_heavy (IsUnjudged fault) = []
files_if_heavy (IsRead answer) = []
files_if_heavy (IsPublished file publishing) = []

abbrev pub paths_if_heavy : List ℕ → Judgement → List (List ℕ)
paths_if_heavy path (IsJudged file) = []
paths_if_heavy path (IsHeavy file heavy) = path ∷ []
paths_if_heavy path (IsUnjudged fault) = []
paths_if_heavy path (IsRead answer) = []
paths_if_heavy path (IsPublished file publishing) = []

abbrev pub heavy_files : List (List ℕ × Judgement) → List PlainFile
heavy_files judgements = flat_map (λ j. files_if_heavy j.1) judgements

-- the paths of files that a step limit refused
abbrev pub heavy_paths : List (List ℕ × Judgement) → List (List ℕ)
heavy_paths judgements = flat_map (λ j. paths_if_heavy j.0 j.1) judgements

-- the paths of files, each with the number of the first of these files that is related to its file
pub record FindsNumbers (Related : PlainFile → PlainFile → Type 0) (paths : List (List ℕ)) (files : List PlainFile)
    (found : List (List ℕ × ℕ)) : Type 0 where
  pub of_paths : map (λ p. p.0) found ≡ paths
  pub numbers : AllZip (λ p file. IsFirstNumber Related files file p.1) found files

-- The text is that of the groups of paths whose files are one auction: of the files that were judged, and of those that
-- a step limit refused, as far as that is known without any search, as the files are alike.
pub record MakesGroups (ending : Ending) (all : Bool) (judgements : List (List ℕ × Judgement)) (text : List ℕ)
    : Type 0 where
  pub judged : List (List ℕ × ℕ)
  pub finds_judged : FindsNumbers AreSameFiles (judged_paths judgements) (judged_files judgements) judged
  pub heavy : List (List ℕ × ℕ)
  pub finds_heavy : FindsNumbers AreAlike (heavy_paths judgements) (heavy_files judgements) heavy
  pub is_text : text ≡ duplicates_text ending all judged heavy
