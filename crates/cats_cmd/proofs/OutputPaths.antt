-- The paths are read back from the whole output. A text is its lines with a byte behind each, which no line has: a printed path has no
-- control byte, or, with NUL at its end, no NUL. The lines of groups are cut at the empty ones, and the rows of a table behind nine tabs.
use Rattle.cats_cmd.proofs.Common.{◌≡◌, ℕ, suc, ◌<◌, ◌==◌, ◌&&◌, Bool, true, false, List, [], ◌∷◌, ◌++◌, length, map, refl, sym, ap, ap₂, ◌∙◌, not, ltb, arith}
use Rattle.cats_cmd.proofs.Common.{append-nil, filter, All, flat_map, list_all, slice_split, and_from, and_parts, lt-ltb, ltb-true, ne_eqb, not-true}
use Rattle.cats_cmd.proofs.Common.{not_from_false, nat_tests, flat_map-append, append_assoc, length-map, list_all-map, slice_split_at, slice_split_none}
use Rattle.cats_cmd.proofs.Common.{after_empty_lines, duplicates_text, groups_text, lines_of, printed_groups, end_of, escaped, path_text, IsPath, behind_tabs}
use Rattle.cats_cmd.proofs.Common.{end_byte, groups_in, has_lines, is_empty, paths_in_table, read_path, ended, parts_in, Judgement, cells, MakesTable, columns}
use Rattle.cats_cmd.proofs.Common.{rows_of_table, sizes_header, Ending, Line, Null, codes, drop}
use Rattle.cats_cmd.proofs.FaultTexts.{fault_plain, number_plain, plain_lacks}
use Rattle.cats_cmd.proofs.Grouping.{printed_have_paths}
use Rattle.cats_cmd.proofs.ListingPaths.{parts_back}
use Rattle.cats_cmd.proofs.PrintableTexts.{is_ascii, lacks, lacks_from, list_all-both, list_all-flat_map, list_all-from_All, list_all-weaker}
use Rattle.cats_cmd.proofs.PrintableTexts.{none_passes, of_each}
use Rattle.cats_cmd.proofs.ReadingBack.{harmless_all, is_harmless, read_back}

-- ---- a printed path

-- a path as it is printed, without its end
abbrev printed : Ending → List ℕ → List ℕ
printed Line path = escaped path
printed Null path = path

text_printed : (ending : Ending) (path : List ℕ) → path_text ending path ≡ printed ending path ++ end_byte ending ∷ []
text_printed Line path = refl
text_printed Null path = refl

end_is : (ending : Ending) → end_of ending ≡ end_byte ending ∷ []
end_is Line = refl
end_is Null = refl

printed_back : (ending : Ending) (path : List ℕ) → read_path ending (printed ending path) ≡ path
printed_back Line path = read_back path
printed_back Null path = refl

printed_lacks : (ending : Ending) (path : List ℕ) → lacks 0 path ≡ true → lacks (end_byte ending) (printed ending path) ≡ true
printed_lacks Line path plain = list_all-weaker is_harmless (λ b. not (b == 10)) (λ b e. grind (arith, nat_tests)) (escaped path) (harmless_all path)
printed_lacks Null path plain = plain

printed_some : (ending : Ending) (text path : List ℕ) → read_path ending text ≡ path → 0 < length path → is_empty text ≡ false
printed_some ending (b ∷ text) path back some = ne_eqb (length (b ∷ text)) 0 (λ e. absurd (omega (arith, e)))
printed_some Line [] path back some = let none = ap (length {A = ℕ}) back in absurd (omega (arith, none, some))
printed_some Null [] path back some = let none = ap (length {A = ℕ}) back in absurd (omega (arith, none, some))

-- ---- groups

-- what holds of each path holds of the paths of each auction
pub printed_all : (p : List ℕ → Bool) (all : Bool) (judged heavy : List (List ℕ × ℕ)) → list_all (λ f. p f.0) judged ≡ true
    → list_all (λ f. p f.0) heavy ≡ true → list_all (list_all p) (printed_groups all judged heavy) ≡ true
printed_all p all judged heavy are others = simp (of_each, are, others)

abbrev is_path : List ℕ → Bool
is_path path = ltb 0 (length path) && lacks 0 path

path_is : (path : List ℕ) → IsPath path → is_path path ≡ true
path_is path is = and_from (ltb 0 (length path)) (lacks 0 path) (lt-ltb 0 (length path) is.some) (lacks_from 0 path is.plain)

module _ (ending : Ending) where
  abbrev line : List ℕ → List ℕ
  line path = printed ending path

  -- an empty line, and the lines of a group
  abbrev lines_after : List (List (List ℕ)) → List (List ℕ)
  lines_after groups = flat_map (λ paths. [] ∷ map line paths) groups

  abbrev lines_of_groups : List (List (List ℕ)) → List (List ℕ)
  lines_of_groups [] = []
  lines_of_groups (paths ∷ groups) = map line paths ++ lines_after groups

  group_ended : (paths : List (List ℕ)) → lines_of ending paths ≡ ended (end_byte ending) (map line paths)
  group_ended [] = refl
  group_ended (path ∷ paths) = simp (text_printed, group_ended paths)

  after_ended : (groups : List (List (List ℕ))) → after_empty_lines ending groups ≡ ended (end_byte ending) (lines_after groups)
  after_ended [] = refl
  after_ended (paths ∷ groups) = simp (end_is, group_ended, flat_map-append, after_ended groups)

  groups_ended : (groups : List (List (List ℕ))) → groups_text ending groups ≡ ended (end_byte ending) (lines_of_groups groups)
  groups_ended [] = refl
  groups_ended (paths ∷ groups) = simp (group_ended paths, flat_map-append, after_ended groups)

  group_lacks : (paths : List (List ℕ)) → list_all is_path paths ≡ true → list_all (lacks (end_byte ending)) (map line paths) ≡ true
  group_lacks paths are = rw list_all-map (list_all-weaker is_path (λ path. lacks (end_byte ending) (line path))
      (λ path is. printed_lacks ending path (and_parts (ltb 0 (length path)) (lacks 0 path) is).1) paths are)

  after_lacks : (groups : List (List (List ℕ))) → list_all (list_all is_path) groups ≡ true → list_all (lacks (end_byte ending)) (lines_after groups) ≡ true
  after_lacks groups are =
      rw list_all-flat_map (list_all-weaker (list_all is_path) (λ paths. list_all (lacks (end_byte ending)) ([] ∷ map line paths)) group_lacks groups are)

  groups_lack : (groups : List (List (List ℕ))) → list_all (list_all is_path) groups ≡ true → list_all (lacks (end_byte ending)) (lines_of_groups groups) ≡ true
  groups_lack [] are = refl
  groups_lack (paths ∷ groups) are =
      let both = and_parts (list_all is_path paths) (list_all (list_all is_path) groups) are in
      list_all-both (lacks (end_byte ending)) (map line paths) (lines_after groups) (group_lacks paths both.0) (after_lacks groups both.1)

  group_some : (paths : List (List ℕ)) → list_all is_path paths ≡ true → All (λ l. is_empty l ≡ false) (map line paths)
  group_some paths are = none_passes is_empty (map line paths) (rw list_all-map (list_all-weaker is_path (λ path. not (is_empty (line path))) some paths are))
    where
      some : (path : List ℕ) → is_path path ≡ true → not (is_empty (line path)) ≡ true
      some path is = not_from_false (is_empty (line path)) (printed_some ending (line path) path (printed_back ending path)
          (ltb-true 0 (length path) (and_parts (ltb 0 (length path)) (lacks 0 path) is).0))

  -- the lines are cut at the empty ones
  lines_cut : (paths : List (List ℕ)) (groups : List (List (List ℕ))) → list_all is_path paths ≡ true → list_all (list_all is_path) groups ≡ true
      → slice_split is_empty (map line paths ++ lines_after groups) ≡ map line paths ∷ map (map line) groups
  lines_cut paths [] are more = ap (slice_split is_empty) (append-nil (map line paths)) ∙ slice_split_none is_empty (map line paths) (group_some paths are)
  lines_cut paths (next ∷ groups) are more =
      let both = and_parts (list_all is_path next) (list_all (list_all is_path) groups) more in
      slice_split_at is_empty (map line paths) [] (map line next ++ lines_after groups) (group_some paths are) refl
      ∙ ap (λ (gs : List (List (List ℕ))). map line paths ∷ gs) (lines_cut next groups both.0 both.1)

  group_back : (paths : List (List ℕ)) → map (read_path ending) (map line paths) ≡ paths
  group_back [] = refl
  group_back (path ∷ paths) = simp (printed_back, group_back paths)

  groups_back : (groups : List (List (List ℕ))) → list_all has_lines groups ≡ true
      → map (map (read_path ending)) (filter has_lines (map (map line) groups)) ≡ groups
  groups_back [] some = refl
  groups_back (paths ∷ groups) some =
      let both = and_parts (has_lines paths) (list_all has_lines groups) some in simp (length-map, both.0, group_back paths, groups_back groups both.1)

  all_back : (groups : List (List (List ℕ))) → list_all (list_all is_path) groups ≡ true → list_all has_lines groups ≡ true
      → groups_in ending (groups_text ending groups) ≡ groups
  all_back [] are some = refl
  all_back (paths ∷ groups) are some =
      let both = and_parts (list_all is_path paths) (list_all (list_all is_path) groups) are in
      ap (λ (ls : List (List ℕ)). map (map (read_path ending)) (filter has_lines (slice_split is_empty ls)))
      (ap (parts_in (end_byte ending)) (groups_ended (paths ∷ groups))
      ∙ parts_back (end_byte ending) (lines_of_groups (paths ∷ groups)) (groups_lack (paths ∷ groups) are))
      ∙ ap (λ (gs : List (List (List ℕ))). map (map (read_path ending)) (filter has_lines gs)) (lines_cut paths groups both.0 both.1)
      ∙ groups_back (paths ∷ groups) some

  pub duplicates_back : (all : Bool) (judged heavy : List (List ℕ × ℕ)) → All (λ f. IsPath f.0) judged → All (λ f. IsPath f.0) heavy
      → groups_in ending (duplicates_text ending all judged heavy) ≡ printed_groups all judged heavy
  duplicates_back all judged heavy are others =
      let of = list_all-from_All (λ (f : List ℕ × ℕ). IsPath f.0) (λ f. is_path f.0) (λ f. path_is f.0) in
      all_back (printed_groups all judged heavy) (printed_all is_path all judged heavy (of judged are) (of heavy others)) (printed_have_paths all judged heavy)

-- ---- the cells of a row

abbrev pub words_of : Judgement → List (List ℕ)
words_of j = map (λ c. c.1 j) columns

pub words_plain : (j : Judgement) → list_all (list_all is_ascii) (words_of j) ≡ true
words_plain j = simp (number_plain, fault_plain)

cells_lack : (end : ℕ) → end < 32 → not (9 == end) ≡ true → (words : List (List ℕ)) → list_all (list_all is_ascii) words ≡ true → lacks end (cells words) ≡ true
cells_lack end low tab words are = rw list_all-flat_map (list_all-weaker (list_all is_ascii) (λ word. lacks end (word ++ 9 ∷ []))
    (λ word plain. list_all-both (λ b. not (b == end)) word (9 ∷ []) (plain_lacks end low word plain) (rw tab refl)) words are)

words_lack : (ending : Ending) (j : Judgement) → lacks (end_byte ending) (cells (words_of j)) ≡ true
words_lack Line j = cells_lack 10 (omega arith) refl (words_of j) (words_plain j)
words_lack Null j = cells_lack 0 (omega arith) refl (words_of j) (words_plain j)

behind_word : (word rest : List ℕ) (count : ℕ) → lacks 9 word ≡ true → behind_tabs (word ++ 9 ∷ rest) (suc count) ≡ behind_tabs rest count
behind_word [] rest count plain = refl
behind_word (b ∷ word) rest count plain =
    let both = and_parts (not (b == 9)) (lacks 9 word) plain in rw (not-true (b == 9) both.0) (behind_word word rest count both.1)

behind_words : (words : List (List ℕ)) (rest : List ℕ) → list_all (list_all is_ascii) words ≡ true → behind_tabs (cells words ++ rest) (length words) ≡ rest
behind_words [] rest are = refl
behind_words (word ∷ words) rest are =
    let both = and_parts (list_all is_ascii word) (list_all (list_all is_ascii) words) are in
    ap (λ (text : List ℕ). behind_tabs text (suc (length words)))
    (append_assoc (word ++ 9 ∷ []) (cells words) rest ∙ append_assoc word (9 ∷ []) (cells words ++ rest))
    ∙ behind_word word (cells words ++ rest) (length words) (plain_lacks 9 (omega arith) word both.0) ∙ behind_words words rest both.1

-- ---- a table

module _ (ending : Ending) where
  -- the rows, without their ends
  abbrev row_lines : List (List ℕ × Judgement) → List (List ℕ)
  row_lines judgements = map (λ j. cells (words_of j.1) ++ printed ending j.0) judgements

  table_ended : (js : List (List ℕ × Judgement)) → rows_of_table ending js ≡ ended (end_byte ending) (row_lines js)
  table_ended [] = refl
  table_ended (j ∷ js) =
      ap₂ (λ (xs ys : List ℕ). xs ++ ys) (ap (λ (text : List ℕ). cells (words_of j.1) ++ text) (text_printed ending j.0)
      ∙ sym (append_assoc (cells (words_of j.1)) (printed ending j.0) (end_byte ending ∷ []))) (table_ended js)

  table_lacks : (js : List (List ℕ × Judgement)) → list_all (λ j. lacks 0 j.0) js ≡ true → list_all (lacks (end_byte ending)) (row_lines js) ≡ true
  table_lacks js plain =
      rw list_all-map (list_all-weaker (λ (j : List ℕ × Judgement). lacks 0 j.0)
      (λ j. lacks (end_byte ending) (cells (words_of j.1) ++ printed ending j.0))
      (λ j is. list_all-both (λ b. not (b == end_byte ending)) (cells (words_of j.1)) (printed ending j.0) (words_lack ending j.1)
      (printed_lacks ending j.0 is)) js plain)

  abbrev path_of : List ℕ → List ℕ
  path_of line = read_path ending (behind_tabs line (length columns))

  -- the path is behind the cells of the columns
  rows_back : (js : List (List ℕ × Judgement)) → map path_of (row_lines js) ≡ map (λ j. j.0) js
  rows_back [] = refl
  rows_back (j ∷ js) =
      ap₂ (λ (path : List ℕ) (paths : List (List ℕ)). path ∷ paths)
      (ap (read_path ending) (behind_words (words_of j.1) (printed ending j.0) (words_plain j.1)) ∙ printed_back ending j.0) (rows_back js)

-- the header of a table, without its end
abbrev titles : List ℕ
titles = cells (map (λ c. c.0) columns) ++ codes "file"

titles_lack : (ending : Ending) → lacks (end_byte ending) titles ≡ true
titles_lack Line = refl
titles_lack Null = refl

header_ended : (ending : Ending) → sizes_header ending ≡ titles ++ end_byte ending ∷ []
header_ended Line = refl
header_ended Null = refl

pub table_back : (ending : Ending) (js : List (List ℕ × Judgement)) (text : List ℕ) → All (λ j. All (λ b. (b == 0) ≡ false) j.0) js
    → MakesTable ending js text → paths_in_table ending text ≡ map (λ j. j.0) js
table_back ending js text plain makes =
    let of = list_all-from_All (λ (j : List ℕ × Judgement). All (λ b. (b == 0) ≡ false) j.0) (λ j. lacks 0 j.0) (λ j. lacks_from 0 j.0) js plain in
    ap (λ (ls : List (List ℕ)). map (path_of ending) (drop 1 ls))
    (ap (parts_in (end_byte ending)) (makes ∙ ap₂ (λ (xs ys : List ℕ). xs ++ ys) (header_ended ending) (table_ended ending js))
    ∙ parts_back (end_byte ending) (titles ∷ row_lines ending js)
    (and_from (lacks (end_byte ending) titles) (list_all (lacks (end_byte ending)) (row_lines ending js)) (titles_lack ending) (table_lacks ending js of)))
    ∙ rows_back ending js
