-- The paths in a list. It is a text as the programs `sort`, `wc` and `du` take it.
use Rattle.std.specs.Prelude.{ℕ, List, [], ◌∷◌, ◌++◌, ◌==◌}
use Rattle.std.specs.List.{flat_map, slice_split}

-- the parts without a last one that is empty
abbrev pub without_empty_end : List (List ℕ) → List (List ℕ)
without_empty_end [] = []
without_empty_end ([] ∷ []) = []
without_empty_end ((b ∷ part) ∷ []) = (b ∷ part) ∷ []
without_empty_end (part ∷ next ∷ more) = part ∷ without_empty_end (next ∷ more)

-- the parts of a text, in which each ends with this byte; the last may lack it
abbrev pub parts_in : ℕ → List ℕ → List (List ℕ)
parts_in end text = without_empty_end (slice_split (λ b. b == end) text)

-- the text that has this byte behind each part
abbrev pub ended : ℕ → List (List ℕ) → List ℕ
ended end parts = flat_map (λ part. part ++ end ∷ []) parts

-- the paths in a list, in which each ends with NUL
abbrev pub paths_in : List ℕ → List (List ℕ)
paths_in text = parts_in 0 text

-- the list of these paths
abbrev pub listed : List (List ℕ) → List ℕ
listed paths = ended 0 paths
