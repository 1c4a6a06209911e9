-- The paths, read back from a whole output. It is that of `cats duplicates` or of `cats sizes`.
use Rattle.std.specs.Prelude.{◌==◌, ◌<◌, nat_lt, if◌then◌else◌, ℕ, zero, suc, Bool, false, List, [], ◌∷◌, length}
use Rattle.std.specs.Prelude.{filter, map, drop}
use Rattle.std.specs.Prelude.{◌≡◌}
use Rattle.std.specs.List.{All, slice_split}
use Rattle.cats_cmd.specs.Escaping.{unescaped}
use Rattle.cats_cmd.specs.PathLists.{parts_in}
use Rattle.cats_cmd.specs.SizesTables.{columns}
use Rattle.cats_cmd.specs.declared.paths.Ending.{Ending}
use Rattle.cats_cmd.specs.declared.paths.Ending.TheVariants.{Line, Null}

-- a path that a file may have: not empty, with no NUL
pub record IsPath (path : List ℕ) : Type 0 where
  pub some : 0 < length path
  pub plain : All (λ b. (b == 0) ≡ false) path

-- the byte that is behind each line
abbrev pub end_byte : Ending → ℕ
end_byte Line = 10
end_byte Null = 0

abbrev pub lines_in : Ending → List ℕ → List (List ℕ)
lines_in ending text = parts_in (end_byte ending) text

-- the path that is printed so
abbrev pub read_path : Ending → List ℕ → List ℕ
read_path Line text = unescaped text
read_path Null text = text

-- ---- groups

abbrev pub is_empty : List ℕ → Bool
is_empty line = length line == 0

-- whether there is a line; a text without lines has one part, which has none
abbrev pub has_lines : List (List ℕ) → Bool
has_lines lines = nat_lt 0 (length lines)

-- the paths in a text of `cats duplicates`, by group (law)
--
-- Lines that are empty divide the groups.
abbrev pub groups_in : Ending → List ℕ → List (List (List ℕ))
groups_in ending text = map (map (read_path ending)) (filter has_lines (slice_split is_empty (lines_in ending text)))

-- ---- tables

-- what is behind so many tabs
abbrev pub behind_tabs : List ℕ → ℕ → List ℕ
behind_tabs line zero = line
behind_tabs [] (suc count) = []
behind_tabs (b ∷ line) (suc count) = if b == 9 then behind_tabs line count else behind_tabs line (suc count)

-- the paths in a text of `cats sizes` (law)
--
-- A path is behind the cells of its row, below the header.
abbrev pub paths_in_table : Ending → List ℕ → List (List ℕ)
paths_in_table ending text = map (λ line. read_path ending (behind_tabs line (length columns)))
    (drop 1 (lines_in ending text))
