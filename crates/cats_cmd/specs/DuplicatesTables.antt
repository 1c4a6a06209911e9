-- What `cats duplicates --table` prints. It is a header, and a row for each path, with the group of its file, the path
-- of the first file of that group, and why the file was not judged.
use Rattle.std.specs.Prelude.{◌≡◌, ◌+◌, ℕ, Bool, false, List, [], ◌∷◌, ◌++◌, length, find, fold, codes, bytes_eq}
use Rattle.std.specs.Prelude.{Option, Some, None, option_and_then, option_map, is_some, if◌then◌else◌, decimal}
use Rattle.std.specs.List.{flat_map}
use Rattle.canon.specs.Canonical.{canonical_text}
use Rattle.canon.specs.Unsearched.{unsearched_text}
use Rattle.cats_cmd.specs.Escaping.{end_of, escaped}
use Rattle.cats_cmd.specs.SizesTables.{fault_cell}
use Rattle.cats_cmd.specs.declared.paths.Ending.{Ending}
use Rattle.cats_cmd.specs.declared.paths.Ending.TheVariants.{Line, Null}
use Rattle.commands.specs.Judgements.{Judgement, IsJudged, IsHeavy, IsUnjudged, IsPublished, IsRead, fault_judged}
use Rattle.commands.specs.declared.faults.RunFault.{RunFault}

-- ---- groups

-- what the files of a group share
pub data GroupKey : Type 0 where
  -- their canonical text, of files that were judged
  OfJudged : List ℕ → GroupKey
  -- their unsearched text, of files that a step limit refused
  OfHeavy : List ℕ → GroupKey

abbrev pub same_key : GroupKey → GroupKey → Bool
same_key (OfJudged text) (OfJudged other) = bytes_eq text other
same_key (OfHeavy text) (OfHeavy other) = bytes_eq text other
same_key key other = false

-- what a file shares with those of its group; one that was not read is in no group
abbrev pub key_of : Judgement → Option GroupKey
key_of (IsJudged file) = Some (OfJudged (canonical_text file))
key_of (IsHeavy file heavy) = Some (OfHeavy (unsearched_text file))
key_of (IsUnjudged fault) = None
key_of (IsRead answer) = None
key_of (IsPublished file publishing) = Some (OfJudged (canonical_text file))

-- what the files of a group share, its number, and the path of its first file
pub record FileGroup : Type 0 where
  pub key : GroupKey
  pub number : ℕ
  pub first : List ℕ

abbrev pub group_with : List FileGroup → GroupKey → Option FileGroup
group_with groups key = find (λ g. same_key g.key key) groups

-- the groups with a file more, at this path: it opens a group, with the next number, unless it is in one of them
abbrev pub with_file : List FileGroup → List ℕ → Option GroupKey → List FileGroup
with_file groups path None = groups
with_file groups path (Some key) = if is_some (group_with groups key) then groups
    else groups ++ record { key = key; number = length groups + 1; first = path } ∷ []

-- the groups of files, in the order of their first files
abbrev pub groups_among : List (List ℕ × Judgement) → List FileGroup
groups_among judgements = fold (λ groups j. with_file groups j.0 (key_of j.1)) [] judgements

-- the group of a file
abbrev pub group_of : List FileGroup → Judgement → Option FileGroup
group_of groups judgement = option_and_then (group_with groups) (key_of judgement)

-- ---- the table

-- what is behind each cell but the last
abbrev pub cell_end : Ending → List ℕ
cell_end Line = codes "\t"
cell_end Null = 0 ∷ []

-- a path in a cell
abbrev pub path_cell : Ending → List ℕ → List ℕ
path_cell Line path = escaped path
path_cell Null path = path

abbrev pub cell_text : Ending → List ℕ → List ℕ
cell_text ending cell = cell ++ cell_end ending

-- the number of a group and the path of its first file; of a file without a group no number, and its own path
abbrev pub group_cells : Ending → List ℕ → Option (List ℕ × ℕ) → List ℕ
group_cells ending path None = cell_end ending ++ cell_text ending (path_cell ending path)
group_cells ending path (Some (first, number)) =
    cell_text ending (decimal number) ++ cell_text ending (path_cell ending first)

-- a row: what its file is grouped with, the path of the file, and why it was not judged
abbrev pub row_text : Ending → Option (List ℕ × ℕ) → List ℕ → Option RunFault → List ℕ
row_text ending group path fault = group_cells ending path group ++ cell_text ending (path_cell ending path)
    ++ fault_cell fault ++ end_of ending

abbrev pub shown : FileGroup → List ℕ × ℕ
shown group = (group.first, group.number)

-- the row of a path in the table of these groups
abbrev pub group_row : Ending → List FileGroup → List ℕ → Judgement → List ℕ
group_row ending groups path judgement =
    row_text ending (option_map shown (group_of groups judgement)) path (fault_judged judgement)

abbrev pub group_rows : Ending → List FileGroup → List (List ℕ × Judgement) → List ℕ
group_rows ending groups judgements = flat_map (λ j. group_row ending groups j.0 j.1) judgements

abbrev pub table_header : Ending → List ℕ
table_header ending = cell_text ending (codes "group") ++ cell_text ending (codes "first")
    ++ cell_text ending (codes "file") ++ codes "fault" ++ end_of ending

-- the table of `cats duplicates --table`
abbrev pub MakesGroupTable : Ending → List (List ℕ × Judgement) → List ℕ → Type 0
MakesGroupTable ending judgements text =
    text ≡ table_header ending ++ group_rows ending (groups_among judgements) judgements

-- ---- what it says (laws)

-- whether two keys are there and the same
abbrev pub share_key : Option GroupKey → Option GroupKey → Bool
share_key (Some key) (Some other) = same_key key other
share_key key other = false

-- the path of the first file that is grouped with this one
abbrev pub first_path : List (List ℕ × Judgement) → Judgement → Option (List ℕ)
first_path judgements judgement =
    option_map (λ j. j.0) (find (λ j. share_key (key_of j.1) (key_of judgement)) judgements)
