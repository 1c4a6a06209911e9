-- What `cats publish` prints and writes. It prints a header, and a row for each path; and it writes the canonical text
-- of each auction once, or with `--all` that of each file.
use Rattle.std.specs.Prelude.{◌≡◌, ◌&&◌, ◌||◌, ◌++◌, ℕ, Bool, List, [], ◌∷◌, length, codes, decimal, is_none}
use Rattle.std.specs.Prelude.{slice_get}
use Rattle.std.specs.Prelude.{Option, Some, None, option_and_then, option_map, unwrap_or, if◌then◌else◌, false}
use Rattle.bid_file.specs.Files.{PlainFile}
use Rattle.canon.specs.Canonical.{canonical_text}
use Rattle.canon.specs.FirstNumbers.{first_number}
use Rattle.cats_cmd.specs.Duplicates.{judged_files, judged_paths}
use Rattle.cats_cmd.specs.Escaping.{escaped}
use Rattle.cats_cmd.specs.SizesTables.{fault_cell}
use Rattle.cats_cmd.specs.Stores.{Attempt, path_in}
use Rattle.cats_cmd.specs.TextPaths.{PlacedText}
use Rattle.commands.specs.Judgements.{Judgement, IsJudged, IsPublished, Publishing, canonical_known}
use Rattle.commands.specs.Judgements.{fault_judged, file_read}
use Rattle.commands.specs.Outputs.{number_cell}
use Rattle.commands.specs.Sizes.{cells}
use Rattle.commands.specs.declared.faults.Unwritten.{Unwritten}

-- the path of the text of the file with this number
abbrev pub text_path : List PlacedText → ℕ → List ℕ
text_path places number = unwrap_or (option_map (λ p. p.text) (slice_get places number)) []

-- the path of the first file before it that is the same auction
abbrev pub same_as : List (List ℕ × Judgement) → PlainFile → Option (List ℕ)
same_as before file = option_and_then (slice_get (judged_paths before)) (first_number (judged_files before) file)

-- a file that was judged before, at this path, has the same canonical text (law)
pub record HasSameText (before : List (List ℕ × Judgement)) (file : PlainFile) (path : List ℕ) : Type 0 where
  pub number : ℕ
  pub other : PlainFile
  pub there : slice_get (judged_paths before) number ≡ Some path
  pub is : slice_get (judged_files before) number ≡ Some other
  pub same : canonical_text other ≡ canonical_text file

-- a text was to be written for the file with this number
abbrev pub attempt_at : List ℕ → List PlacedText → ℕ → List ℕ → Option Unwritten → Attempt
attempt_at folder places number text unwritten = record {
  path = path_in folder (text_path places number);
  text = text;
  unwritten = unwritten;
}

-- Files are published into a folder, all of them or one of each auction, and this is where the text of each is written.
module _ (folder : List ℕ) (all : Bool) (places : List PlacedText) where
  -- whether the text of a file is written, unless that fails
  abbrev pub is_wanted : List (List ℕ × Judgement) → PlainFile → Bool
  is_wanted before file = all || is_none (first_number (judged_files before) file)

  -- the text of a file is to be written, if it is wanted
  abbrev pub attempt_if : List (List ℕ × Judgement) → Judgement → List Attempt
  attempt_if before (IsPublished file publishing) = if is_wanted before file
      then attempt_at folder places (length before) (canonical_text file) publishing.unwritten ∷ [] else []
  attempt_if before judgement = []

  -- A file that is judged is published. There is no reason why its text was not written, if that was not wanted.
  abbrev pub IsForPublishing : List (List ℕ × Judgement) → Judgement → Type 0
  IsForPublishing before (IsPublished file publishing) =
      is_wanted before file ≡ false → publishing.unwritten ≡ None
  IsForPublishing before (IsJudged file) = ⊥
  IsForPublishing before judgement = Unit {0}

  -- ---- rows

  -- the path of its text below the folder, if it was written
  abbrev pub text_cell : List (List ℕ × Judgement) → Judgement → List ℕ
  text_cell before (IsPublished file publishing) = if is_wanted before file && is_none publishing.unwritten
      then escaped (text_path places (length before)) else []
  text_cell before judgement = []

  abbrev pub same_cell : List (List ℕ × Judgement) → Judgement → List ℕ
  same_cell before (IsPublished file publishing) = escaped (unwrap_or (same_as before file) [])
  same_cell before judgement = []

  abbrev pub rounded_cell : (Publishing → ℕ) → Judgement → List ℕ
  rounded_cell count (IsPublished file publishing) = decimal (count publishing)
  rounded_cell count judgement = []

  abbrev pub goods_cell : Option PlainFile → List ℕ
  goods_cell file = number_cell (option_map (λ f. f.goods) file)

  abbrev pub bids_cell : Option PlainFile → List ℕ
  bids_cell file = number_cell (option_map (λ f. length f.bids) file)

  -- the row of a path, behind those of the paths before it
  abbrev pub publish_row : List (List ℕ × Judgement) → List ℕ → Judgement → List ℕ
  publish_row before path judgement = cells (escaped path ∷ text_cell before judgement ∷ same_cell before judgement
      ∷ goods_cell (file_read judgement) ∷ bids_cell (file_read judgement) ∷ bids_cell (canonical_known judgement)
      ∷ rounded_cell (λ p. p.rounded) judgement ∷ rounded_cell (λ p. p.zeroed) judgement ∷ [])
      ++ fault_cell (fault_judged judgement) ++ codes "\n"

  abbrev pub rows_behind : List (List ℕ × Judgement) → List (List ℕ × Judgement) → List ℕ
  rows_behind before [] = []
  rows_behind before (j ∷ rest) = publish_row before j.0 j.1 ++ rows_behind (before ++ j ∷ []) rest

  -- the texts that are to be written for files, behind those before them
  abbrev pub attempts_behind : List (List ℕ × Judgement) → List (List ℕ × Judgement) → List Attempt
  attempts_behind before [] = []
  attempts_behind before (j ∷ rest) = attempt_if before j.1 ++ attempts_behind (before ++ j ∷ []) rest

  abbrev pub AreForPublishing : List (List ℕ × Judgement) → List (List ℕ × Judgement) → Type 0
  AreForPublishing before [] = Unit {0}
  AreForPublishing before (j ∷ rest) = IsForPublishing before j.1 × AreForPublishing (before ++ j ∷ []) rest

  -- ---- all

  abbrev pub publish_header : List ℕ
  publish_header = codes "file\ttext\tsame_as\tgoods\tbids\tkept\trounded\tzeroed\tfault\n"

  -- the table of `cats publish`, and the texts that were to be written, each the canonical text of its row's file
  pub record Publishes (judgements : List (List ℕ × Judgement)) (printed : List ℕ) (attempts : List Attempt)
      : Type 0 where
    pub judged : AreForPublishing [] judgements
    pub table : printed ≡ publish_header ++ rows_behind [] judgements
    pub texts : attempts ≡ attempts_behind [] judgements
