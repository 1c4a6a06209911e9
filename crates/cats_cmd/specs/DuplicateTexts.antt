-- What `cats duplicates` prints. Of the files that were judged, it has those that are not the only one of their
-- auction, or all. Of those that a step limit refused, it has those that are alike to another one.
use Rattle.std.specs.Prelude.{ℕ, ◌==◌, nat_lt, if◌then◌else◌, Bool, false, List, [], ◌∷◌, ◌++◌, length, map, filter}
use Rattle.std.specs.Prelude.{Vec}
use Rattle.std.specs.Borrow.{Bor}
use Rattle.std.specs.Global.{Global}
use Rattle.std.specs.List.{flat_map, range_with_len}
use Rattle.cats_cmd.specs.Escaping.{end_of, path_text}
use Rattle.cats_cmd.specs.declared.paths.Ending.{Ending}

-- each path, and the number of the first file that its file is grouped with
abbrev pub found_paths : List (Vec ℕ Global × ℕ) → List (List ℕ × ℕ)
found_paths found = map (λ f. (f.0.items, f.1)) found

-- the paths of the files of which this is the number
abbrev pub paths_at : List (List ℕ × ℕ) → ℕ → List (List ℕ)
paths_at found number = map (λ f. f.0) (filter (λ f. f.1 == number) found)

-- the paths for each number
abbrev pub groups_of : List (List ℕ × ℕ) → List (List (List ℕ))
groups_of found = map (paths_at found) (range_with_len 0 (length found))

-- ---- the text

-- a group of two files or more, or with `--all` of one
abbrev pub is_printed : Bool → List (List ℕ) → Bool
is_printed all paths = nat_lt (if all then 0 else 1) (length paths)

-- the paths, each on a line, or each with NUL behind it
abbrev pub lines_of : Ending → List (List ℕ) → List ℕ
lines_of ending paths = flat_map (path_text ending) paths

-- the groups, each behind an empty line, or behind one more NUL
abbrev pub after_empty_lines : Ending → List (List (List ℕ)) → List ℕ
after_empty_lines ending groups = flat_map (λ paths. end_of ending ++ lines_of ending paths) groups

-- the groups, with an empty line, or one more NUL, between each two
abbrev pub groups_text : Ending → List (List (List ℕ)) → List ℕ
groups_text ending [] = []
groups_text ending (paths ∷ groups) = lines_of ending paths ++ after_empty_lines ending groups

-- the groups of paths that `cats duplicates` prints, judged files first
--
-- They are in the order of the first of each. Those of the files that a step limit refused are of two files or more,
-- and with `all` the others may be of one.
abbrev pub printed_groups : Bool → List (List ℕ × ℕ) → List (List ℕ × ℕ) → List (List (List ℕ))
printed_groups all judged heavy =
    filter (is_printed all) (groups_of judged) ++ filter (is_printed false) (groups_of heavy)

-- the text of `cats duplicates`
abbrev pub duplicates_text : Ending → Bool → List (List ℕ × ℕ) → List (List ℕ × ℕ) → List ℕ
duplicates_text ending all judged heavy = groups_text ending (printed_groups all judged heavy)

-- the lines after a text, with an empty line between them if there is a text
abbrev pub behind : Ending → List ℕ → List ℕ → List ℕ
behind ending text lines = if length text == 0 then lines else text ++ end_of ending ++ lines

-- the text with one more group
abbrev pub with_group : Ending → Bool → List ℕ → List (List ℕ) → List ℕ
with_group ending all text paths = if is_printed all paths then behind ending text (lines_of ending paths) else text

-- groups as the code has them
abbrev pub plain_group : Vec (Bor (List ℕ)) Global → List (List ℕ)
plain_group group = map (λ path. path.now) group.items

abbrev pub plain_groups : List (Vec (Bor (List ℕ)) Global) → List (List (List ℕ))
plain_groups groups = map plain_group groups
