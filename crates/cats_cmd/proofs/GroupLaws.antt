-- What the groups of a table are: files are in one group exactly if they have one key, and so are related; and each group has the next number, and the
-- path of the first file with its key.
use Rattle.cats_cmd.proofs.Common.{◌≡◌, ℕ, ◌+◌, Bool, true, false, cond, List, [], ◌∷◌, ◌++◌, length, fold, refl, sym, ap, ◌∙◌, subst, arith}
use Rattle.cats_cmd.proofs.Common.{append-nil, append_assoc, length-append, Option, Some, None, is_some, option_map, list_all, cases_Bool, cases_eq, cond_both}
use Rattle.cats_cmd.proofs.Common.{⊎_elim}
use Rattle.cats_cmd.proofs.Common.{and_parts, slice_get_within, Judgement, PlainFile, IsPlainFile, AreAlike, AreSameFiles, canonical_texts_tell}
use Rattle.cats_cmd.proofs.Common.{unsearched_texts_tell, canonical_text, unsearched_text, All, All-from_recursion, AllByRecursion}
use Rattle.cats_cmd.proofs.GroupTables.{HaveGroups, Step, among_have, has_group, is_opened, kept_at, map_none, map_there, not_opened, opened, or_none, or_there}
use Rattle.cats_cmd.proofs.GroupTables.{put_at}
use Rattle.cats_cmd.proofs.GroupTables.{same_text, with_opened}
use Rattle.cats_cmd.specs.DuplicatesTables.{FileGroup, GroupKey, OfHeavy, OfJudged, first_path, group_of, group_with, groups_among, key_of, same_key, share_key}
use Rattle.cats_cmd.specs.DuplicatesTables.{with_file}
use Rattle.std.specs.Option.{option_or}
use Rattle.std.specs.Prelude.{find, slice_get, ◌↔◌}
use Rattle.std.proofs.lemmas.Bool.{false≢true}
use Rattle.std.proofs.lemmas.List.Folds.{find-append}

-- ---- files of one group

some_same : {X : Type 0} (x y : X) → Some x ≡ Some y → x ≡ y
some_same x y is = cc

found_passes : {X : Type 0} (p : X → Bool) (xs : List X) (x : X) → find p xs ≡ Some x → p x ≡ true
found_passes p [] x is = cc
found_passes {X} p (y ∷ ys) x is =
    cond_both (p y) (Some y) (find p ys) (λ (found : Option X). found ≡ Some x → p x ≡ true)
    (λ yes at. subst (λ (z : X). p z ≡ true) (some_same y x at) yes) (λ no at. found_passes p ys x at) is

abbrev text_in : GroupKey → List ℕ
text_in (OfJudged text) = text
text_in (OfHeavy text) = text

is_judged : (key : GroupKey) (text : List ℕ) → same_key key (OfJudged text) ≡ true → key ≡ OfJudged text
is_judged (OfJudged other) text same = ap (λ (t : List ℕ). OfJudged t) (same_text other text same)
is_judged (OfHeavy other) text same = absurd (false≢true same)

is_heavy : (key : GroupKey) (text : List ℕ) → same_key key (OfHeavy text) ≡ true → key ≡ OfHeavy text
is_heavy (OfHeavy other) text same = ap (λ (t : List ℕ). OfHeavy t) (same_text other text same)
is_heavy (OfJudged other) text same = absurd (false≢true same)

module _ (groups : List FileGroup) (group : FileGroup) where
  has_key : (key : GroupKey) → group_with groups key ≡ Some group → same_key group.key key ≡ true
  has_key key is = found_passes (λ g. same_key g.key key) groups group is

  judged_text : (text : List ℕ) → group_with groups (OfJudged text) ≡ Some group → group.key ≡ OfJudged text
  judged_text text is = is_judged group.key text (has_key (OfJudged text) is)

  heavy_text : (text : List ℕ) → group_with groups (OfHeavy text) ≡ Some group → group.key ≡ OfHeavy text
  heavy_text text is = is_heavy group.key text (has_key (OfHeavy text) is)

  pub judged_together : (file other : PlainFile) → IsPlainFile file → IsPlainFile other → group_with groups (OfJudged (canonical_text file)) ≡ Some group
      → (group_with groups (OfJudged (canonical_text other)) ≡ Some group ↔ AreSameFiles file other)
  judged_together file other plain facts is = (
    (λ at. (canonical_texts_tell file other plain facts).0 (ap text_in (sym (judged_text (canonical_text file) is) ∙ judged_text (canonical_text other) at))),
    (λ same. ap (λ (text : List ℕ). group_with groups (OfJudged text)) (sym ((canonical_texts_tell file other plain facts).1 same)) ∙ is),
  )

  pub heavy_together : (file other : PlainFile) → IsPlainFile file → IsPlainFile other → group_with groups (OfHeavy (unsearched_text file)) ≡ Some group
      → (group_with groups (OfHeavy (unsearched_text other)) ≡ Some group ↔ AreAlike file other)
  heavy_together file other plain facts is = (
    (λ at. (unsearched_texts_tell file other plain facts).0 (ap text_in (sym (heavy_text (unsearched_text file) is) ∙ heavy_text (unsearched_text other) at))),
    (λ alike. ap (λ (text : List ℕ). group_with groups (OfHeavy text)) (sym ((unsearched_texts_tell file other plain facts).1 alike)) ∙ is),
  )

  pub never_together : (text other : List ℕ) → group_with groups (OfJudged text) ≡ Some group → group_with groups (OfHeavy other) ≡ Some group → ⊥
  never_together text other is at = apart (sym (judged_text text is) ∙ heavy_text other at)
    where
      apart : OfJudged text ≡ OfHeavy other → ⊥
      apart is = cc

-- ---- numbers

abbrev pub AreNumbered : List FileGroup → Type 0
AreNumbered groups = (k : ℕ) (group : FileGroup) → slice_get groups k ≡ Some group → group.number ≡ k + 1

numbered_more : (groups : List FileGroup) (path : List ℕ) (key : GroupKey) → AreNumbered groups → AreNumbered (groups ++ opened groups path key ∷ [])
numbered_more groups path key are k group at =
    let within = slice_get_within (groups ++ opened groups path key ∷ []) k group at in
    let long = length-append groups (opened groups path key ∷ []) in
    ⊎_elim
    (λ (last : k ≡ length groups).
    let same : opened groups path key ≡ group = some_same (opened groups path key) group
    (sym (put_at groups (opened groups path key)) ∙ ap (slice_get (groups ++ opened groups path key ∷ [])) (sym last) ∙ at) in
    ap (λ (g : FileGroup). g.number) (sym same) ∙ ap (λ (n : ℕ). n + 1) (sym last))
    (λ (other : k ≡ length groups → ⊥). are k group (sym (kept_at groups (opened groups path key) k (omega (arith, within, long, other))) ∙ at))
    (cases_eq k (length groups))

numbered_step : (groups : List FileGroup) (path : List ℕ) (key : Option GroupKey) → AreNumbered groups → AreNumbered (with_file groups path key)
numbered_step groups path None are = are
numbered_step groups path (Some key) are = go (group_with groups key) refl
  where
    go : (found : Option FileGroup) → group_with groups key ≡ found → AreNumbered (with_file groups path (Some key))
    go None none = subst AreNumbered (sym (is_opened groups path key none)) (numbered_more groups path key are)
    go (Some group) is = subst AreNumbered (sym (not_opened groups path key (ap (λ (o : Option FileGroup). is_some o) is))) are

numbered_all : (groups : List FileGroup) (js : List (List ℕ × Judgement)) → AreNumbered groups → AreNumbered (fold Step groups js)
numbered_all groups [] are = are
numbered_all groups (j ∷ js) are = numbered_all (Step groups j) js (numbered_step groups j.0 (key_of j.1) are)

pub among_numbered : (js : List (List ℕ × Judgement)) → AreNumbered (groups_among js)
among_numbered js = numbered_all [] js (λ k group at. cc)

-- ---- first files

abbrev first_with : List (List ℕ × Judgement) → GroupKey → Option (List ℕ × Judgement)
first_with js key = find (λ j. share_key (key_of j.1) (Some key)) js

-- the group of each key has the path of the first file with it
abbrev HaveFirsts : List FileGroup → List (List ℕ × Judgement) → Type 0
HaveFirsts groups js = (key : GroupKey) → option_map (λ g. g.first) (group_with groups key) ≡ option_map (λ j. j.0) (first_with js key)

first_more : (js : List (List ℕ × Judgement)) (j : List ℕ × Judgement) (key : GroupKey)
    → first_with (js ++ j ∷ []) key ≡ option_or (first_with js key) (cond (share_key (key_of j.1) (Some key)) (Some j) None)
first_more js j key = find-append (λ k. share_key (key_of k.1) (Some key)) js (j ∷ [])

same_keys : (key other : GroupKey) → same_key key other ≡ true → key ≡ other
same_keys key (OfJudged text) same = is_judged key text same
same_keys key (OfHeavy text) same = is_heavy key text same

module _ (groups : List FileGroup) (js : List (List ℕ × Judgement)) (j : List ℕ × Judgement) (have : HaveFirsts groups js) where
  -- a file that shares no key
  passed : (key : GroupKey) → share_key (key_of j.1) (Some key) ≡ false → first_with (js ++ j ∷ []) key ≡ first_with js key
  passed key apart = first_more js j key ∙ rw apart (or_none (first_with js key))

  -- a key that a file had before
  had : (key : GroupKey) → is_some (group_with groups key) ≡ true → first_with (js ++ j ∷ []) key ≡ first_with js key
  had key there =
      first_more js j key
      ∙ or_there (first_with js key) _ (map_there (λ (k : List ℕ × Judgement). k.0) (first_with js key) (option_map (λ g. g.first) (group_with groups key))
      (sym (have key)) (mapped (group_with groups key) there))
    where
      mapped : (o : Option FileGroup) → is_some o ≡ true → is_some (option_map (λ (g : FileGroup). g.first) o) ≡ true
      mapped None there = absurd (false≢true there)
      mapped (Some g) there = refl

  firsts_step : (given : Option GroupKey) → key_of j.1 ≡ given → HaveFirsts (with_file groups j.0 given) (js ++ j ∷ [])
  firsts_step None is key = have key ∙ ap (option_map (λ k. k.0)) (sym (passed key (rw is refl)))
  firsts_step (Some own) is key = go (group_with groups own) refl
    where
      go : (found : Option FileGroup) → group_with groups own ≡ found
          → option_map (λ g. g.first) (group_with (with_file groups j.0 (Some own)) key) ≡ option_map (λ k. k.0) (first_with (js ++ j ∷ []) key)
      go (Some group) at =
          let there : is_some (group_with groups own) ≡ true = ap (λ (o : Option FileGroup). is_some o) at in
          rw (not_opened groups j.0 own there)
          (have key ∙ ap (option_map (λ k. k.0)) (sym (⊎_elim
          (λ (same : same_key own key ≡ true). had key (subst (λ (k : GroupKey). is_some (group_with groups k) ≡ true) (same_keys own key same) there))
          (λ (apart : same_key own key ≡ false). passed key (rw is apart))
          (cases_Bool (same_key own key)))))
      go None none =
          rw (is_opened groups j.0 own none)
          (⊎_elim
          (λ (same : same_key own key ≡ true).
          let lacks : group_with groups key ≡ None = subst (λ (k : GroupKey). group_with groups k ≡ None) (same_keys own key same) none in
          let before : first_with js key ≡ None = map_none (λ (k : List ℕ × Judgement). k.0) (first_with js key)
          (sym (have key) ∙ ap (option_map (λ (g : FileGroup). g.first)) lacks) in
          rw (with_opened groups j.0 own key, first_more js j key, is, lacks, before, same) refl)
          (λ (apart : same_key own key ≡ false).
          ap (option_map (λ (g : FileGroup). g.first)) (with_opened groups j.0 own key ∙ rw apart (or_none (group_with groups key)))
          ∙ have key ∙ ap (option_map (λ k. k.0)) (sym (passed key (rw is apart))))
          (cases_Bool (same_key own key)))

firsts_all : (groups : List FileGroup) (before js : List (List ℕ × Judgement)) → HaveFirsts groups before → HaveFirsts (fold Step groups js) (before ++ js)
firsts_all groups before [] have = subst (HaveFirsts groups) (sym (append-nil before)) have
firsts_all groups before (j ∷ js) have =
    subst (HaveFirsts (fold Step groups (j ∷ js))) (append_assoc before (j ∷ []) js)
    (firsts_all (Step groups j) (before ++ j ∷ []) js (firsts_step groups before j have (key_of j.1) refl))

pub first_of_group : (js : List (List ℕ × Judgement)) (j : Judgement) (group : FileGroup) → group_of (groups_among js) j ≡ Some group
    → first_path js j ≡ Some group.first
first_of_group js j group is = go (key_of j) refl
  where
    go : (key : Option GroupKey) → key_of j ≡ key → first_path js j ≡ Some group.first
    go None none = absurd (no_group (rw none at is))
      where
        no_group : None ≡ Some group → ⊥
        no_group is = cc
    go (Some key) at =
        let of_key : group_with (groups_among js) key ≡ Some group = rw at at is in
        rw at (sym (firsts_all [] [] js (λ key. refl) key) ∙ ap (option_map (λ (g : FileGroup). g.first)) of_key)

-- ---- each file

each_has : (groups : List FileGroup) (js : List (List ℕ × Judgement)) → HaveGroups groups js
    → AllByRecursion (λ j. is_some (key_of j.1) ≡ true → is_some (group_of groups j.1) ≡ true) js
each_has groups [] have = tt
each_has groups (j ∷ js) have =
    let both = and_parts (has_group groups (key_of j.1)) (list_all (λ j. has_group groups (key_of j.1)) js) have in
    ((λ read. go (key_of j.1) refl read both.0), each_has groups js both.1)
  where
    go : (key : Option GroupKey) → key_of j.1 ≡ key → is_some (key_of j.1) ≡ true → has_group groups key ≡ true → is_some (group_of groups j.1) ≡ true
    go None none read has = absurd (false≢true (rw none at read))
    go (Some key) at read has = rw at has

pub each_is_in_one : (js : List (List ℕ × Judgement)) → All (λ j. is_some (key_of j.1) ≡ true → is_some (group_of (groups_among js) j.1) ≡ true) js
each_is_in_one js = All-from_recursion (λ j. is_some (key_of j.1) ≡ true → is_some (group_of (groups_among js) j.1) ≡ true) js
    (each_has (groups_among js) js (among_have js))
