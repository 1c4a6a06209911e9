-- What `cats sizes` prints. It is a header, and a row for each path, with the numbers of its file, those of the
-- canonical file, and why the file was not judged.
use Rattle.std.specs.Prelude.{◌≡◌, ◌-◌, ℕ, List, [], ◌∷◌, ◌++◌, length, map, take, codes}
use Rattle.std.specs.Prelude.{Option, Some, None}
use Rattle.std.specs.List.{flat_map}
use Rattle.commands.specs.Sizes.{cells, number_columns, Column}
use Rattle.cats_cmd.specs.Escaping.{end_of, path_text}
use Rattle.cats_cmd.specs.declared.paths.Ending.{Ending}
use Rattle.commands.specs.FaultLines.{line_of_fault}
use Rattle.commands.specs.Judgements.{Judgement, fault_judged}
use Rattle.commands.specs.declared.faults.RunFault.{RunFault}

-- ---- the columns

-- a line without its end
abbrev pub without_end : List ℕ → List ℕ
without_end line = take (length line - 1) line

-- what is reported of a file elsewhere, without its path and its line end
abbrev pub fault_cell : Option RunFault → List ℕ
fault_cell None = []
fault_cell (Some fault) = without_end (line_of_fault fault)

-- all, but for that of the path, which is the last
abbrev pub columns : List Column
columns = number_columns ++ (codes "fault", λ j. fault_cell (fault_judged j)) ∷ []

-- ---- the table

-- the row of a path in the table of `cats sizes`
abbrev pub row : Ending → List ℕ → Judgement → List ℕ
row ending path judgement = cells (map (λ c. c.1 judgement) columns) ++ path_text ending path

abbrev pub rows_of_table : Ending → List (List ℕ × Judgement) → List ℕ
rows_of_table ending judgements = flat_map (λ j. row ending j.0 j.1) judgements

abbrev pub sizes_header : Ending → List ℕ
sizes_header ending = cells (map (λ c. c.0) columns) ++ codes "file" ++ end_of ending

-- the table of `cats sizes`
abbrev pub MakesTable : Ending → List (List ℕ × Judgement) → List ℕ → Type 0
MakesTable ending judgements text = text ≡ sizes_header ending ++ rows_of_table ending judgements
