-- The paths of the files for each number: each is put after those of its number. And the text of the groups: a group that is printed has
-- lines, so the next group comes after an empty line.
use Rattle.cats_cmd.proofs.Common.{fold, length-append, ◌≡◌, ℕ, zero, suc, ◌+◌, ◌<◌, ◌==◌, Bool, true, false, cond, ⊎_elim, List, [], ◌∷◌, ◌++◌, length, map}
use Rattle.cats_cmd.proofs.Common.{get_or, set, take, replicate, refl, sym, ap, ap₂, ◌∙◌, arith, append-nil, zero-add, Bor, Vec, filter, list_all}
use Rattle.cats_cmd.proofs.Common.{range_with_len, and_parts, cases_Bool, cases_eq, ne_eqb, eq-eqb, length-set, get_or-set_same, get_or-set_other, length-map}
use Rattle.cats_cmd.proofs.Common.{get_or-map, map-set, map-append, take_more, filter_more, filter_passes, fill_by_all, length-map-range_with_len}
use Rattle.cats_cmd.proofs.Common.{get_or-map-range_with_len, after_empty_lines, behind, duplicates_text, groups_of, groups_text, is_printed, lines_of}
use Rattle.cats_cmd.proofs.Common.{paths_at, plain_group, plain_groups, printed_groups, with_group, end_of, has_lines, nat_tests, list_all-append, Ending}
use Rattle.cats_cmd.proofs.Common.{Line, Null, fold_push, list_all-from_AllPass, append_assoc, Global, flat_map-append}
use Rattle.cats_cmd.proofs.PrintableTexts.{list_all-weaker}

abbrev Found : Type 0
Found = List ℕ × ℕ

abbrev Group : Type 0
Group = Vec (Bor (List ℕ)) Global

-- ---- one more file

pub length-plain_groups : (groups : List Group) (found : List Found) (n : ℕ) → plain_groups groups ≡ map (paths_at found) (range_with_len 0 n)
    → length groups ≡ n
length-plain_groups groups found n h = sym (length-map groups plain_group) ∙ ap (length {A = List (List ℕ)}) h ∙ length-map-range_with_len (paths_at found) 0 n

module _ (found : List Found) (i : ℕ) (b : Found) (l : i < length found) (here : get_or found i b ≡ b) where
  more : (k : ℕ) → paths_at (take (i + 1) found) k ≡ paths_at (take i found) k ++ map (λ f. f.0) (cond (b.1 == k) (b ∷ []) [])
  more k =
      ap (map (λ f. f.0)) (filter_more (λ f. f.1 == k) found i b l ∙ ap (λ (c : Found). filter (λ f. f.1 == k) (take i found) ++ cond (c.1 == k) (c ∷ []) [])
      here) ∙ map-append (λ f. f.0) (filter (λ f. f.1 == k) (take i found)) (cond (b.1 == k) (b ∷ []) [])

  put : paths_at (take (i + 1) found) b.1 ≡ paths_at (take i found) b.1 ++ b.0 ∷ []
  put = rw (more b.1, eq-eqb b.1 b.1 refl) refl

  left_out : (k : ℕ) → (k ≡ b.1 → ⊥) → paths_at (take (i + 1) found) k ≡ paths_at (take i found) k
  left_out k differ = rw (more k, ne_eqb b.1 k (λ f. differ (sym f))) (append-nil (paths_at (take i found) k))

  groups_more : (n : ℕ) → b.1 < n → set (map (paths_at (take i found)) (range_with_len 0 n)) b.1 (paths_at (take i found) b.1 ++ b.0 ∷ [])
      ≡ map (paths_at (take (i + 1) found)) (range_with_len 0 n)
  groups_more n m =
      let old : List (List (List ℕ)) = map (paths_at (take i found)) (range_with_len 0 n) in
      let long : length old ≡ n = length-map-range_with_len (paths_at (take i found)) 0 n in
      fill_by_all (paths_at (take (i + 1) found)) (set old b.1 (paths_at (take i found) b.1 ++ b.0 ∷ [])) n [] (length-set old b.1 _ ∙ long)
      (λ k l. ⊎_elim
      (λ (same : k ≡ b.1). rw (same, put) (get_or-set_same old b.1 _ [] (omega arith)))
      (λ (differ : k ≡ b.1 → ⊥). get_or-set_other old b.1 k _ [] differ ∙ get_or-map-range_with_len (paths_at (take i found)) 0 n k k [] l (zero-add k)
      ∙ sym (left_out k differ))
      (cases_eq k b.1))

  pub put_path : (groups changed : List Group) (old new : Group) (path : Bor (List ℕ)) (n : ℕ) → path.now ≡ b.0 → b.1 < n
      → plain_groups groups ≡ map (paths_at (take i found)) (range_with_len 0 n) → old ≡ get_or groups b.1 old → new.items ≡ old.items ++ path ∷ []
      → changed ≡ set groups b.1 new → plain_groups changed ≡ map (paths_at (take (i + 1) found)) (range_with_len 0 n)
  put_path groups changed old new path n p m h is e c =
      let long = length-plain_groups groups (take i found) n h in
      let before : plain_group old ≡ paths_at (take i found) b.1 =
      ap plain_group is ∙ sym (get_or-map plain_group groups b.1 old [] (omega arith)) ∙ ap (λ (xs : List (List (List ℕ))). get_or xs b.1 []) h
      ∙ get_or-map-range_with_len (paths_at (take i found)) 0 n b.1 b.1 [] m (zero-add b.1) in
      let after : plain_group new ≡ paths_at (take i found) b.1 ++ b.0 ∷ [] =
      ap (map (λ (q : Bor (List ℕ)). q.now)) e ∙ map-append (λ (q : Bor (List ℕ)). q.now) old.items (path ∷ [])
      ∙ ap₂ (λ (xs : List (List ℕ)) (x : List ℕ). xs ++ x ∷ []) before p in
      ap plain_groups c ∙ map-set plain_group groups b.1 new ∙ ap₂ (λ (xs : List (List (List ℕ))) (x : List (List ℕ)). set xs b.1 x) h after ∙ groups_more n m

-- no group has a path before the first file
pub no_paths : (low n : ℕ) → replicate n [] ≡ map (paths_at []) (range_with_len low n)
no_paths low zero = refl
no_paths low (suc n) = ap (λ (xs : List (List (List ℕ))). [] ∷ xs) (no_paths (low + 1) n)

-- ---- the text of the groups that are printed

-- a path has bytes, so a group with a path has lines
lines_long : (ending : Ending) (paths : List (List ℕ)) → has_lines paths ≡ true → 0 < length (lines_of ending paths)
lines_long Line (path ∷ paths) e = grind (arith, length-append)
lines_long Null (path ∷ paths) e = grind (arith, length-append)
lines_long ending [] e = absurd (cc)

-- a group that is printed has a path
some_printed : (all : Bool) (paths : List (List ℕ)) → is_printed all paths ≡ true → has_lines paths ≡ true
some_printed true paths e = e
some_printed false paths e = grind (arith, nat_tests)

-- each group has a path
abbrev HavePaths : List (List (List ℕ)) → Type 0
HavePaths groups = list_all has_lines groups ≡ true

have_paths : (all : Bool) (groups : List (List (List ℕ))) → HavePaths (filter (is_printed all) groups)
have_paths all groups =
    list_all-weaker (is_printed all) has_lines (some_printed all) (filter (is_printed all) groups)
    (list_all-from_AllPass (is_printed all) (filter (is_printed all) groups) (filter_passes (is_printed all) groups))

pub printed_have_paths : (all : Bool) (judged heavy : List Found) → HavePaths (printed_groups all judged heavy)
printed_have_paths all judged heavy = simp (list_all-append, have_paths)

module _ (ending : Ending) (all : Bool) where
  behind_groups : (groups : List (List (List ℕ))) (paths : List (List ℕ)) → HavePaths groups
      → behind ending (groups_text ending groups) (lines_of ending paths) ≡ groups_text ending (groups ++ paths ∷ [])
  behind_groups [] paths h = sym (append-nil (lines_of ending paths))
  behind_groups (group ∷ groups) paths h =
      let some = lines_long ending group (and_parts (has_lines group) (list_all has_lines groups) h).0 in
      let long : (length (groups_text ending (group ∷ groups)) == 0) ≡ false =
      ne_eqb (length (groups_text ending (group ∷ groups))) 0 (λ e. absurd (omega
      (arith, some, e, length-append (lines_of ending group) (after_empty_lines ending groups)))) in
      let pushed : after_empty_lines ending (groups ++ paths ∷ []) ≡ after_empty_lines ending groups ++ (end_of ending ++ lines_of ending paths) =
      simp (flat_map-append, append-nil) in
      rw long (simp append_assoc (ap (λ (text : List ℕ). lines_of ending group ++ text) (sym pushed)))

  abbrev ArePrinted : List (List (List ℕ)) → List (List (List ℕ)) → Type 0
  ArePrinted groups printed = fold (with_group ending all) (groups_text ending printed) groups ≡ groups_text ending (printed ++ filter (is_printed all) groups)

  printed_next : (printed : List (List (List ℕ))) (paths : List (List ℕ)) (groups : List (List (List ℕ)))
      → HavePaths printed → ((more : List (List (List ℕ))) → HavePaths more → ArePrinted groups more) → ArePrinted (paths ∷ groups) printed
  printed_next printed paths groups h others =
      ⊎_elim
      (λ (e : is_printed all paths ≡ true).
      rw (e, behind_groups printed paths h) (others (printed ++ paths ∷ []) (simp (list_all-append, h, some_printed all paths e))
      ∙ ap (groups_text ending) (append_assoc printed (paths ∷ []) (filter (is_printed all) groups))))
      (λ (e : is_printed all paths ≡ false). rw e (others printed h))
      (cases_Bool (is_printed all paths))

  printed_behind : (printed groups : List (List (List ℕ))) → HavePaths printed → ArePrinted groups printed
  printed_behind printed [] h = ap (groups_text ending) (sym (append-nil printed))
  printed_behind printed (paths ∷ groups) h = printed_next printed paths groups h (λ more k. printed_behind more groups k)

  -- one more group behind a text
  pub group_printed : (start : List ℕ) (groups : List Group) (i : ℕ) (group : Group) (before after : List ℕ) → i < length groups → group ≡ get_or groups i group
      → before ≡ fold (with_group ending all) start (plain_groups (take i groups)) → after ≡ with_group ending all before (plain_group group)
      → after ≡ fold (with_group ending all) start (plain_groups (take (i + 1) groups))
  group_printed start groups i group before after l e b a =
      a ∙ ap (λ (text : List ℕ). with_group ending all text (plain_group group)) b
      ∙ sym (ap (λ (gs : List Group). fold (with_group ending all) start (plain_groups gs)) (take_more groups i group l
      ∙ ap (λ (g : Group). take i groups ++ g ∷ []) (sym e)) ∙ ap (fold (with_group ending all) start) (map-append plain_group (take i groups) (group ∷ []))
      ∙ fold_push (with_group ending all) start (plain_groups (take i groups)) (plain_group group))

-- the groups of the judged files, and behind them those of the others
pub both_printed : (ending : Ending) (all : Bool) (judged heavy : List Found) (first both : List ℕ)
    → first ≡ fold (with_group ending all) [] (groups_of judged) → both ≡ fold (with_group ending false) first (groups_of heavy)
    → both ≡ duplicates_text ending all judged heavy
both_printed ending all judged heavy first both e f =
    f ∙ ap (λ (text : List ℕ). fold (with_group ending false) text (groups_of heavy)) (e ∙ printed_behind ending all [] (groups_of judged) refl)
    ∙ printed_behind ending false (filter (is_printed all) (groups_of judged)) (groups_of heavy) (have_paths all (groups_of judged))
