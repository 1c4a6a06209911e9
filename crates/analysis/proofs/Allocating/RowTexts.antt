-- The text of the rows, good by good: the row of one more good is put behind them if two bids share it.
use Rattle.analysis.proofs.Common.{rules, ◌≡◌, ℕ, ◌+◌, true, false, List, [], ◌∷◌, ◌++◌, map, refl, ap, ◌∙◌, arith, append_assoc, append-nil, filter, flat_map}
use Rattle.analysis.proofs.Common.{range_with_len, map-append, filter-append, PlainFile, filter-kept, filter-lost, PlainRow, is_shared, row_of, row_text}
use Rattle.analysis.proofs.Common.{flat_map-append, range_more, if_none, instead}

-- the text of the rows of the first goods
abbrev pub first_rows : PlainFile → ℕ → List ℕ
first_rows f n = flat_map row_text (filter is_shared (map (row_of f) (range_with_len 0 n)))

pub range_next : (n : ℕ) → range_with_len 0 (n + 1) ≡ range_with_len 0 n ++ n ∷ []
range_next n = let e : 0 + n ≡ n = omega arith in range_more 0 n ∙ ap (λ m. range_with_len 0 n ++ m ∷ []) e

one_more : (f : PlainFile) (n : ℕ) → first_rows f (n + 1) ≡ first_rows f n ++ flat_map row_text (filter is_shared (row_of f n ∷ []))
one_more f n = search (rules, range_next, map-append, filter-append, flat_map-append)

-- the row of the next good, shared or not
pub row_kept : (f : PlainFile) (n : ℕ) → is_shared (row_of f n) ≡ true → first_rows f (n + 1) ≡ first_rows f n ++ row_text (row_of f n)
row_kept f n t = search (rules, one_more, filter-kept, append-nil)

pub row_left_out : (f : PlainFile) (n : ℕ) → is_shared (row_of f n) ≡ false → first_rows f (n + 1) ≡ first_rows f n
row_left_out f n t = search (rules, one_more, filter-lost, append-nil)

-- a row has bytes
pub instead_is : (rows : List PlainRow) (other : List ℕ) → instead (flat_map row_text rows) other ≡ if_none rows other
instead_is [] other = refl
instead_is (row ∷ rows) other = refl

-- one more line
pub line_behind : (line : ℕ → List ℕ) (n : ℕ) (start before after : List ℕ) → before ≡ start ++ flat_map line (range_with_len 0 n)
    → after ≡ before ++ line n → after ≡ start ++ flat_map line (range_with_len 0 (n + 1))
line_behind line n start before after h e = search (rules, append_assoc, range_next, flat_map-append, append-nil)

-- ---- piece by piece

pub behind : (start old new piece : List ℕ) → old ≡ start → new ≡ old ++ piece → new ≡ start ++ piece
behind start old new piece h e = e ∙ ap (λ (text : List ℕ). text ++ piece) h

pub behind_if_none : (rows : List PlainRow) (bytes other start old new : List ℕ) → bytes ≡ flat_map row_text rows → old ≡ start
    → new ≡ old ++ instead bytes other → new ≡ start ++ if_none rows other
behind_if_none rows bytes other start old new is h e = search (rules, behind, instead_is)
