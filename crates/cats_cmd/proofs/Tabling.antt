-- The rows of `cats sizes`: what a row of a file says is what became of the file at its path.
use Rattle.cats_cmd.proofs.Common.{◌≡◌, ℕ, List, [], ◌∷◌, ◌++◌, map, sym, append-nil, ap, ◌∙◌, Option, numbers_judged}
use Rattle.cats_cmd.proofs.Common.{flat_map-append, RunFault}
use Rattle.cats_cmd.proofs.Common.{cells, Judgement}
use Rattle.cats_cmd.proofs.Common.{fault_judged, columns, fault_cell, number_columns, row, rows_of_table, path_text, Ending}
use Rattle.cats_cmd.proofs.Common.{codes, append_assoc, refl, sizes_header, MakesTable, PrintsOnly, Attempt}

-- ---- rows

abbrev tabbed : List ℕ → List ℕ
tabbed word = word ++ codes "\t"

row_cells : (j : Judgement) → cells (map (λ c. c.1 j) columns)
    ≡ numbers_judged j ++ (fault_cell (fault_judged j) ++ codes "\t")
row_cells j =
    flat_map-append tabbed (map (λ c. c.1 j) number_columns) (fault_cell (fault_judged j) ∷ [])
    ∙ ap (λ (text : List ℕ). numbers_judged j ++ text) (append-nil (fault_cell (fault_judged j) ++ codes "\t"))

row_more : (ending : Ending) (js : List (List ℕ × Judgement)) (path : List ℕ) (j : Judgement)
    → rows_of_table ending (js ++ (path, j) ∷ []) ≡ rows_of_table ending js ++ row ending path j
row_more ending js path j = flat_map-append (λ (x : List ℕ × Judgement). row ending x.0 x.1) js ((path, j) ∷ [])
    ∙ ap (λ (text : List ℕ). rows_of_table ending js ++ text) (append-nil (row ending path j))

-- the row of a path: the cells of its numbers, that of the fault, and the path
pub row_made : (ending : Ending) (path numbers all text : List ℕ) (j : Judgement) (fault : Option RunFault)
    → numbers ≡ numbers_judged j → all ≡ numbers ++ (fault_cell fault ++ codes "\t") → fault ≡ fault_judged j → text ≡ all ++ path_text ending path
    → text ≡ row ending path j
row_made ending path numbers all text j fault is whole why put =
    rw (put, whole, why, is) (ap (λ (cells : List ℕ). cells ++ path_text ending path) (sym (row_cells j)))

-- it is printed behind the others
pub table_more : (ending : Ending) (js : List (List ℕ × Judgement)) (path : List ℕ) (j : Judgement) (text printed : List ℕ) (attempts : List Attempt)
    → text ≡ row ending path j → PrintsOnly (MakesTable ending) js printed attempts
    → PrintsOnly (MakesTable ending) (js ++ (path, j) ∷ []) (printed ++ text) (attempts ++ [])
table_more ending js path j text printed attempts is shows = (
  rw (is, shows.0, row_more ending js path j) (append_assoc (sizes_header ending) (rows_of_table ending js) (row ending path j)),
  rw shows.1 refl,
)
