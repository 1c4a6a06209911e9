-- The lines that name paths, and the texts of `cats duplicates` and `cats sizes`: what is printed there beside paths is ASCII of ours.
use Rattle.cats_cmd.proofs.Common.{◌≡◌, ℕ, ◌<◌, ◌==◌, ◌||◌, Bool, true, List, [], ◌∷◌, ◌++◌, refl, sym, subst, arith, All, flat_map, list_all, and_parts}
use Rattle.cats_cmd.proofs.Common.{nat_tests, All-weaker, duplicates_text, groups_text, lines_of, printed_groups, AreBytes, IsTextOf, end_of, escaped}
use Rattle.cats_cmd.proofs.Common.{is_printable, is_shown, path_text, Judgement, progress_line, refusal_line, line_of_fault, MakesTable, row}
use Rattle.cats_cmd.proofs.Common.{sizes_header, Line, RunFault, codes, decimal}
use Rattle.cats_cmd.proofs.Common.{MatchOption, Option, None, Some, and_from, cond_both, fault_cell, fault_judged, fold, is_some, list_all-append, option_map}
use Rattle.cats_cmd.proofs.Common.{◌∙◌}
use Rattle.cats_cmd.proofs.FaultTexts.{Plain, fault_line, fault_plain}
use Rattle.cats_cmd.proofs.GroupTables.{Step, opened}
use Rattle.cats_cmd.specs.DuplicatesTables.{FileGroup, GroupKey, MakesGroupTable, group_cells, group_of, group_row, group_with, groups_among, key_of, same_key}
use Rattle.cats_cmd.specs.DuplicatesTables.{shown, table_header, with_file}
use Rattle.std.specs.Prelude.{find, option_and_then}
use Rattle.cats_cmd.proofs.OutputPaths.{printed_all, words_of, words_plain}
use Rattle.cats_cmd.proofs.PrintableTexts.{are_bytes, bytes_from, list_all-from_All, ascii_text, is_ascii, list_all-decimal, no_text, printable, text_behind}

abbrev pub Shown : List ℕ → Type 0
Shown text = IsTextOf is_shown text

-- ---- texts of ours

abbrev pub is_ours : ℕ → Bool
is_ours b = is_ascii b || (b == 9) || (b == 10)

abbrev pub Ours : List ℕ → Type 0
Ours text = list_all is_ours text ≡ true

ours_shown : (b : ℕ) → is_ours b ≡ true → (b < 128) × (is_shown b ≡ true)
ours_shown b e = (grind (arith, nat_tests), grind (arith, nat_tests))

pub ours : (text : List ℕ) → Ours text → Shown text
ours = ascii_text is_shown is_ours ours_shown

pub number_ours : (n : ℕ) → Ours (decimal n)
number_ours n = list_all-decimal is_ours (λ d l. grind (arith, nat_tests)) n

-- one text behind another
pub then : {xs ys : List ℕ} → Shown xs → Shown ys → Shown (xs ++ ys)
then {xs} {ys} x y = text_behind is_shown xs ys x y

-- what is shown of each of some things is shown of all
flat_shown : {X : Type 0} (q : X → Bool) (f : X → List ℕ) → ((x : X) → q x ≡ true → Shown (f x)) → (xs : List X) → list_all q xs ≡ true → Shown (flat_map f xs)
flat_shown q f each [] are = no_text is_shown
flat_shown q f each (x ∷ xs) are = let both = and_parts (q x) (list_all q xs) are in then (each x both.0) (flat_shown q f each xs both.1)

number : (n : ℕ) → Shown (decimal n)
number n = ours (decimal n) (number_ours n)

pub path_shown : (path : List ℕ) → are_bytes path ≡ true → Shown (escaped path)
path_shown path bytes =
    let text = printable path bytes in
    record {
      characters = text.characters;
      scalars = text.scalars;
      kind = All-weaker (λ c. is_printable c ≡ true) (λ c. is_shown c ≡ true) (λ c e. rw e refl) text.characters text.kind;
      spelt = text.spelt;
    }

-- ---- faults

plain_shown : (text : List ℕ) → Plain text → Shown text
plain_shown = ascii_text is_shown is_ascii (λ b e. ours_shown b (rw e refl))

pub fault_shown : (fault : RunFault) → Shown (line_of_fault fault)
fault_shown fault = let line = fault_line fault in subst Shown (sym line.is) (then (plain_shown line.text line.plain) (ours (codes "\n") refl))

-- ---- lines that name a path

pub refusal_shown : (path : List ℕ) (fault : RunFault) → AreBytes path → Shown (refusal_line path fault)
refusal_shown path fault bytes = then (then (path_shown path (bytes_from path bytes)) (ours (codes ": ") refl)) (fault_shown fault)

pub progress_shown : (k n : ℕ) (path : List ℕ) → AreBytes path → Shown (progress_line k n path)
progress_shown k n path bytes =
    then (then (then (then (then (number k) (ours (codes " of ") refl)) (number n)) (ours (codes " ") refl)) (path_shown path (bytes_from path bytes)))
    (ours (codes "\n") refl)

line : (path : List ℕ) → are_bytes path ≡ true → Shown (path_text Line path)
line path bytes = then (path_shown path bytes) (ours (codes "\n") refl)

-- ---- groups

lines : (paths : List (List ℕ)) → list_all are_bytes paths ≡ true → Shown (lines_of Line paths)
lines = flat_shown are_bytes (path_text Line) line

groups_shown : (groups : List (List (List ℕ))) → list_all (list_all are_bytes) groups ≡ true → Shown (groups_text Line groups)
groups_shown [] are = no_text is_shown
groups_shown (paths ∷ groups) are =
    let both = and_parts (list_all are_bytes paths) (list_all (list_all are_bytes) groups) are in
    then (lines paths both.0) (flat_shown (list_all are_bytes) (λ paths. end_of Line ++ lines_of Line paths)
    (λ paths is. then (ours (codes "\n") refl) (lines paths is)) groups both.1)

pub duplicates_shown : (all : Bool) (judged heavy : List (List ℕ × ℕ)) → All (λ f. AreBytes f.0) judged → All (λ f. AreBytes f.0) heavy
    → Shown (duplicates_text Line all judged heavy)
duplicates_shown all judged heavy are others =
    let of = list_all-from_All (λ (f : List ℕ × ℕ). AreBytes f.0) (λ f. are_bytes f.0) (λ f. bytes_from f.0) in
    groups_shown (printed_groups all judged heavy) (printed_all are_bytes all judged heavy (of judged are) (of heavy others))

-- ---- tables

row_shown : (path : List ℕ) (j : Judgement) → are_bytes path ≡ true → Shown (row Line path j)
row_shown path j bytes =
    then (flat_shown (list_all is_ascii) (λ word. word ++ codes "\t") (λ word plain. then (plain_shown word plain) (ours (codes "\t") refl)) (words_of j)
    (words_plain j)) (line path bytes)

pub table_shown : (js : List (List ℕ × Judgement)) (text : List ℕ) → All (λ j. AreBytes j.0) js → MakesTable Line js text → Shown text
table_shown js text are makes =
    subst Shown (sym makes) (then (ours (sizes_header Line) refl)
    (flat_shown (λ (j : List ℕ × Judgement). are_bytes j.0) (λ j. row Line j.0 j.1) (λ j. row_shown j.0 j.1) js
    (list_all-from_All (λ (j : List ℕ × Judgement). AreBytes j.0) (λ j. are_bytes j.0) (λ j. bytes_from j.0) js are)))

-- ---- the table of groups

abbrev has_bytes : FileGroup → Bool
has_bytes group = are_bytes group.first

abbrev HaveBytes : List FileGroup → Type 0
HaveBytes groups = list_all has_bytes groups ≡ true

bytes_step : (groups : List FileGroup) (path : List ℕ) (key : Option GroupKey) → are_bytes path ≡ true → HaveBytes groups
    → HaveBytes (with_file groups path key)
bytes_step groups path None bytes have = have
bytes_step groups path (Some key) bytes have =
    cond_both (is_some (group_with groups key)) groups (groups ++ opened groups path key ∷ []) HaveBytes (λ there. have)
    (λ none. list_all-append has_bytes groups (opened groups path key ∷ [])
    ∙ and_from (list_all has_bytes groups) (list_all has_bytes (opened groups path key ∷ [])) have (and_from (are_bytes path) true bytes refl))

bytes_all : (groups : List FileGroup) (js : List (List ℕ × Judgement)) → list_all (λ j. are_bytes j.0) js ≡ true → HaveBytes groups
    → HaveBytes (fold Step groups js)
bytes_all groups [] are have = have
bytes_all groups (j ∷ js) are have =
    let both = and_parts (are_bytes j.0) (list_all (λ j. are_bytes j.0) js) are in
    bytes_all (Step groups j) js both.1 (bytes_step groups j.0 (key_of j.1) both.0 have)

found_has : {X : Type 0} (p q : X → Bool) (xs : List X) → list_all q xs ≡ true → MatchOption (find p xs) (Unit {0}) (λ x. q x ≡ true)
found_has p q [] are = tt
found_has {X} p q (x ∷ xs) are =
    let both = and_parts (q x) (list_all q xs) are in
    cond_both (p x) (Some x) (find p xs) (λ (found : Option X). MatchOption found (Unit {0}) (λ x. q x ≡ true)) (λ yes. both.0)
    (λ no. found_has p q xs both.1)

group_shown : (path : List ℕ) → are_bytes path ≡ true → (group : Option FileGroup) → MatchOption group (Unit {0}) (λ g. has_bytes g ≡ true)
    → Shown (group_cells Line path (option_map shown group))
group_shown path bytes None has = then (ours (codes "\t") refl) (then (path_shown path bytes) (ours (codes "\t") refl))
group_shown path bytes (Some group) has =
    then (then (number group.number) (ours (codes "\t") refl)) (then (path_shown group.first has) (ours (codes "\t") refl))

of_key : (groups : List FileGroup) (key : Option GroupKey) → HaveBytes groups
    → MatchOption (option_and_then (group_with groups) key) (Unit {0}) (λ g. has_bytes g ≡ true)
of_key groups None have = tt
of_key groups (Some key) have = found_has (λ g. same_key g.key key) has_bytes groups have

group_row_shown : (groups : List FileGroup) → HaveBytes groups → (path : List ℕ) (j : Judgement) → are_bytes path ≡ true → Shown (group_row Line groups path j)
group_row_shown groups have path j bytes =
    then (then (then (group_shown path bytes (group_of groups j) (of_key groups (key_of j) have)) (then (path_shown path bytes) (ours (codes "\t") refl)))
    (plain_shown (fault_cell (fault_judged j)) (fault_plain (fault_judged j)))) (ours (codes "\n") refl)

pub group_table_shown : (js : List (List ℕ × Judgement)) (text : List ℕ) → All (λ j. AreBytes j.0) js → MakesGroupTable Line js text → Shown text
group_table_shown js text are makes =
    let of = list_all-from_All (λ (j : List ℕ × Judgement). AreBytes j.0) (λ j. are_bytes j.0) (λ j. bytes_from j.0) js are in
    subst Shown (sym makes) (then (ours (table_header Line) refl)
    (flat_shown (λ (j : List ℕ × Judgement). are_bytes j.0) (λ j. group_row Line (groups_among js) j.0 j.1)
    (λ j. group_row_shown (groups_among js) (bytes_all [] js of refl) j.0 j.1) js of))
