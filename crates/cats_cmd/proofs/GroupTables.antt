-- The groups of a table, with one more file. A text of an index has the group of its key, so the number of the first file with the text says
-- whether the file opens a group; and a row stays as it is when files come behind it.
use Rattle.cats_cmd.proofs.Common.{◌≡◌, ℕ, zero, suc, ◌+◌, ◌<◌, ltb, Bool, true, false, cond, List, [], ◌∷◌, ◌++◌, length, fold, refl, sym, ap, ap₂, ◌∙◌}
use Rattle.cats_cmd.proofs.Common.{subst, arith, append-nil, append_assoc, length-append, Option, Some, None, is_some, option_map}
use Rattle.cats_cmd.proofs.Common.{flat_map-append, fold-append, list_all, list_all-append, lt-ltb, cases_Bool, ⊎_elim, and_from, and_parts, AddsText}
use Rattle.cats_cmd.proofs.Common.{TextIndex}
use Rattle.cats_cmd.proofs.Common.{Bor, Global, Vec, found_paths, Judgement, Attempt, PrintsOnly, fault_judged}
use Rattle.canon.specs.FirstNumbers.{text_number}
use Rattle.cats_cmd.specs.DuplicatesTables.{FileGroup, GroupKey, MakesGroupTable, OfHeavy, OfJudged, group_row, group_rows, group_with, groups_among}
use Rattle.cats_cmd.specs.DuplicatesTables.{key_of, row_text, same_key, shown, table_header, with_file}
use Rattle.cats_cmd.specs.Internal.GroupTables.{KeepsEntries, NotesFile, shown_entry}
use Rattle.cats_cmd.specs.declared.paths.Ending.{Ending}
use Rattle.std.specs.Prelude.{bytes_eq, slice_get, option_and_then}
use Rattle.std.specs.Option.{option_or}
use Rattle.std.specs.Slice.{IsItemAt}
use Rattle.std.proofs.lemmas.Bool.{false≢true, le-ltb, ltb-false, ltb-true}
use Rattle.std.proofs.lemmas.List.Folds.{find-append}
use Rattle.std.proofs.lemmas.Option.{slice_get-get_or, slice_get-map, slice_get_past}
use Rattle.std.proofs.lemmas.Slice.Eq.{bytes_eq-Decides}

-- ---- lists and options

pub kept_at : {X : Type 0} (xs : List X) (y : X) (k : ℕ) → k < length xs → slice_get (xs ++ y ∷ []) k ≡ slice_get xs k
kept_at [] y k l = absurd (omega (arith, l))
kept_at (x ∷ xs) y zero l = refl
kept_at (x ∷ xs) y (suc k) l = kept_at xs y k (omega (arith, l))

pub put_at : {X : Type 0} (xs : List X) (y : X) → slice_get (xs ++ y ∷ []) (length xs) ≡ Some y
put_at [] y = refl
put_at (x ∷ xs) y = put_at xs y

some_there : {X : Type 0} (xs : List X) (k : ℕ) → k < length xs → is_some (slice_get xs k) ≡ true
some_there [] k l = absurd (omega (arith, l))
some_there (x ∷ xs) zero l = refl
some_there (x ∷ xs) (suc k) l = some_there xs k (omega (arith, l))

-- a mapped option is there where the option is
pub map_there : {A B : Type 0} (f : A → B) (o : Option A) (p : Option B) → option_map f o ≡ p → is_some p ≡ true → is_some o ≡ true
map_there {A} {B} f None p is there = absurd (false≢true (ap (λ (q : Option B). is_some q) is ∙ there))
map_there f (Some x) p is there = refl

pub map_none : {A B : Type 0} (f : A → B) (o : Option A) → option_map f o ≡ None → o ≡ None
map_none f None is = refl
map_none f (Some x) is = absurd (cc)

pub or_none : {X : Type 0} (o : Option X) → option_or o None ≡ o
or_none None = refl
or_none (Some x) = refl

pub or_there : {X : Type 0} (o p : Option X) → is_some o ≡ true → option_or o p ≡ o
or_there None p there = absurd (false≢true there)
or_there (Some x) p there = refl

pub same_text : (one other : List ℕ) → bytes_eq one other ≡ true → one ≡ other
same_text one other is = (bytes_eq-Decides one other).0 is

itself : (text : List ℕ) → bytes_eq text text ≡ true
itself text = (bytes_eq-Decides text text).1 refl

-- ---- groups

abbrev pub opened : List FileGroup → List ℕ → GroupKey → FileGroup
opened groups path key = record { key = key; number = length groups + 1; first = path }

-- a key that is there opens no group
pub not_opened : (groups : List FileGroup) (path : List ℕ) (key : GroupKey) → is_some (group_with groups key) ≡ true → with_file groups path (Some key) ≡ groups
not_opened groups path key there = rw there refl

pub is_opened : (groups : List FileGroup) (path : List ℕ) (key : GroupKey) → group_with groups key ≡ None
    → with_file groups path (Some key) ≡ groups ++ opened groups path key ∷ []
is_opened groups path key none = rw none refl

pub with_opened : (groups : List FileGroup) (path : List ℕ) (key other : GroupKey)
    → group_with (groups ++ opened groups path key ∷ []) other ≡ option_or (group_with groups other) (cond (same_key key other) (Some
    (opened groups path key)) None)
with_opened groups path key other = find-append (λ g. same_key g.key other) groups (opened groups path key ∷ [])

-- a group stays
group_stays : (groups : List FileGroup) (path : List ℕ) (key : Option GroupKey) (other : GroupKey) → is_some (group_with groups other) ≡ true
    → group_with (with_file groups path key) other ≡ group_with groups other
group_stays groups path None other there = refl
group_stays groups path (Some key) other there = go (group_with groups key) refl
  where
    go : (found : Option FileGroup) → group_with groups key ≡ found → group_with (with_file groups path (Some key)) other ≡ group_with groups other
    go None none = rw (is_opened groups path key none) (with_opened groups path key other ∙ or_there (group_with groups other) _ there)
    go (Some group) is = rw (not_opened groups path key (ap (λ (o : Option FileGroup). is_some o) is)) refl

-- a file of another key has no group more
unmoved : (groups : List FileGroup) (path : List ℕ) (key other : GroupKey) → same_key key other ≡ false
    → group_with (with_file groups path (Some key)) other ≡ group_with groups other
unmoved groups path key other apart = go (group_with groups key) refl
  where
    go : (found : Option FileGroup) → group_with groups key ≡ found → group_with (with_file groups path (Some key)) other ≡ group_with groups other
    go None none = rw (is_opened groups path key none) (with_opened groups path key other ∙ rw apart (or_none (group_with groups other)))
    go (Some group) is = rw (not_opened groups path key (ap (λ (o : Option FileGroup). is_some o) is)) refl

-- ---- one more file of a kind

module _ (key : List ℕ → GroupKey) (tells : (one other : List ℕ) → same_key (key one) (key other) ≡ bytes_eq one other) (groups : List FileGroup)
    (old new : TextIndex) (found : List (List ℕ × ℕ)) (text path : List ℕ) (first : ℕ) (h : KeepsEntries key groups old found)
    (added : AddsText old new text first) where
  -- the groups and what is kept then
  pub record HasMore (after : List FileGroup) (longer : List (List ℕ × ℕ)) (more : ℕ) : Type 0 where
    pub keeps : KeepsEntries key after new longer
    pub row : option_map shown (group_with after (key text)) ≡ slice_get longer first
    pub counted : more ≡ length after

  -- a number that was there has the entry that it had
  still : (entry : List ℕ × ℕ) (number : Option ℕ) → ((k : ℕ) → number ≡ Some k → k < length found)
      → option_and_then (slice_get (found ++ entry ∷ [])) number ≡ option_and_then (slice_get found) number
  still entry None within = refl
  still entry (Some k) within = kept_at found entry k (within k refl)

  other_number : (other : List ℕ) → bytes_eq text other ≡ false → text_number new other ≡ text_number old other
  other_number other apart = added.numbers other ∙ rw apart refl

  own_number : text_number new text ≡ Some first
  own_number = added.numbers text ∙ rw (itself text) refl

  -- the first number is that of a file so far
  first_within : (number : Option ℕ) → text_number old text ≡ number → first < length found + 1
  first_within None none = let is : first ≡ old.count = added.found ∙ rw none refl in let count = h.count in omega (arith, is, count)
  first_within (Some k) some = let is : first ≡ k = added.found ∙ rw some refl in let within = h.within text k some in omega (arith, is, within)

  more_within : (entry : List ℕ × ℕ) (other : List ℕ) (number : ℕ) → text_number new other ≡ Some number → number < length (found ++ entry ∷ [])
  more_within entry other number is =
      let long = length-append found (entry ∷ []) in
      ⊎_elim
      (λ (same : bytes_eq text other ≡ true).
      let here : Some first ≡ Some number = sym own_number ∙ ap (text_number new) (same_text text other same) ∙ is in
      let below = first_within (text_number old text) refl in
      let at : first ≡ number = cc in omega (arith, long, below, at))
      (λ (apart : bytes_eq text other ≡ false). let below = h.within other number (sym (other_number other apart) ∙ is) in omega (arith, long, below))
      (cases_Bool (bytes_eq text other))

  more_count : (entry : List ℕ × ℕ) → new.count ≡ length (found ++ entry ∷ [])
  more_count entry = let long = length-append found (entry ∷ []) in let count = h.count in let is = added.count in omega (arith, long, count, is)

  -- the text was there
  known : (k : ℕ) → text_number old text ≡ Some k → (entry : List ℕ × ℕ)
      → HasMore (with_file groups path (Some (key text))) (found ++ entry ∷ []) (length groups)
  known k some entry =
      let within = h.within text k some in
      let entry_there : option_map shown (group_with groups (key text)) ≡ slice_get found k = h.entries text ∙ rw some refl in
      let there = map_there shown (group_with groups (key text)) (slice_get found k) entry_there (some_there found k within) in
      let is : first ≡ k = added.found ∙ rw some refl in
      rw (not_opened groups path (key text) there) (record {
        keeps = record {
          entries = λ other. h.entries other ∙ sym (still entry (text_number old other) (h.within other))
              ∙ ap (option_and_then (slice_get (found ++ entry ∷ []))) (sym (same_number other));
          within = more_within entry;
          count = more_count entry;
        };
        row = entry_there ∙ sym (kept_at found entry k within) ∙ ap (slice_get (found ++ entry ∷ [])) (sym is);
        counted = refl;
      })
    where
      same_number : (other : List ℕ) → text_number new other ≡ text_number old other
      same_number other =
          ⊎_elim
          (λ (same : bytes_eq text other ≡ true).
          subst (λ (t : List ℕ). text_number new t ≡ text_number old t) (same_text text other same)
          (own_number ∙ ap (λ (n : ℕ). Some n) (added.found ∙ rw some refl) ∙ sym some))
          (other_number other) (cases_Bool (bytes_eq text other))

  -- the text was not there
  unknown : text_number old text ≡ None
      → HasMore (with_file groups path (Some (key text))) (found ++ (path, length groups + 1) ∷ []) (length groups + 1)
  unknown none =
      let entry : List ℕ × ℕ = (path, length groups + 1) in
      let lacks : group_with groups (key text) ≡ None = map_none shown (group_with groups (key text)) (h.entries text ∙ rw none refl) in
      let is : first ≡ length found = added.found ∙ rw none h.count in
      let own : option_map shown (group_with (groups ++ opened groups path (key text) ∷ []) (key text)) ≡ slice_get (found ++ entry ∷ []) first =
      rw (with_opened groups path (key text) (key text), lacks, tells text text, itself text) (sym (rw is (put_at found entry))) in
      rw (is_opened groups path (key text) lacks) (record {
        keeps = record {
          entries = λ other. ⊎_elim
              (λ (same : bytes_eq text other ≡ true).
              subst (λ (t : List ℕ). option_map shown (group_with (groups ++ opened groups path (key text) ∷ []) (key t))
              ≡ option_and_then (slice_get (found ++ entry ∷ [])) (text_number new t)) (same_text text other same)
              (own ∙ ap (option_and_then (slice_get (found ++ entry ∷ []))) (sym own_number)))
              (λ (apart : bytes_eq text other ≡ false).
              ap (option_map shown) (with_opened groups path (key text) (key other) ∙ rw (tells text other, apart) (or_none (group_with groups (key other))))
              ∙ h.entries other ∙ sym (still entry (text_number old other) (h.within other))
              ∙ ap (option_and_then (slice_get (found ++ entry ∷ []))) (sym (other_number other apart)))
              (cases_Bool (bytes_eq text other));
          within = more_within entry;
          count = more_count entry;
        };
        row = own;
        counted = sym (length-append groups (opened groups path (key text) ∷ []));
      })

  pub file_more : (longer : List (List ℕ × ℕ)) (more : ℕ) → NotesFile path first (length groups) found longer more
      → HasMore (with_file groups path (Some (key text))) longer more
  file_more longer more notes = go (text_number old text) refl
    where
      go : (number : Option ℕ) → text_number old text ≡ number → HasMore (with_file groups path (Some (key text))) longer more
      go (Some k) some =
          let within = h.within text k some in
          let is : first ≡ k = added.found ∙ rw some refl in
          let below : ltb first (length found) ≡ true = lt-ltb first (length found) (rw is within) in
          rw (notes.entry, notes.is_count, below) (known k some ([], 0))
      go None none =
          let is : first ≡ length found = added.found ∙ rw none h.count in
          let below : ltb first (length found) ≡ false = le-ltb first (length found) (omega (arith, is)) in
          rw (notes.entry, notes.is_count, below) (unknown none)

-- what is kept of the other kind stays
pub other_kind : (key : List ℕ → GroupKey) (groups : List FileGroup) (index : TextIndex) (found : List (List ℕ × ℕ)) (path : List ℕ) (given : GroupKey)
    → ((text : List ℕ) → same_key given (key text) ≡ false) → KeepsEntries key groups index found
    → KeepsEntries key (with_file groups path (Some given)) index found
other_kind key groups index found path given apart h = record {
  entries = λ text. ap (option_map shown) (unmoved groups path given (key text) (apart text)) ∙ h.entries text;
  within = h.within;
  count = h.count;
}

-- ---- rows

pub among_more : (js : List (List ℕ × Judgement)) (path : List ℕ) (j : Judgement)
    → groups_among (js ++ (path, j) ∷ []) ≡ with_file (groups_among js) path (key_of j)
among_more js path j = fold-append (λ (groups : List FileGroup) (j : List ℕ × Judgement). with_file groups j.0 (key_of j.1)) [] js ((path, j) ∷ [])

-- a file that has a group, if it was read
abbrev pub has_group : List FileGroup → Option GroupKey → Bool
has_group groups None = true
has_group groups (Some key) = is_some (group_with groups key)

abbrev pub HaveGroups : List FileGroup → List (List ℕ × Judgement) → Type 0
HaveGroups groups js = list_all (λ j. has_group groups (key_of j.1)) js ≡ true

still_has : (groups : List FileGroup) (path : List ℕ) (more key : Option GroupKey) → has_group groups key ≡ true
    → has_group (with_file groups path more) key ≡ true
still_has groups path more None has = refl
still_has groups path more (Some key) has = ap (λ (o : Option FileGroup). is_some o) (group_stays groups path more key has) ∙ has

all_still : (groups : List FileGroup) (path : List ℕ) (more : Option GroupKey) (js : List (List ℕ × Judgement)) → HaveGroups groups js
    → HaveGroups (with_file groups path more) js
all_still groups path more [] have = refl
all_still groups path more (j ∷ js) have =
    let both = and_parts (has_group groups (key_of j.1)) (list_all (λ j. has_group groups (key_of j.1)) js) have in
    and_from (has_group (with_file groups path more) (key_of j.1)) (list_all (λ j. has_group (with_file groups path more) (key_of j.1)) js)
    (still_has groups path more (key_of j.1) both.0) (all_still groups path more js both.1)

itself_key : (key : GroupKey) → same_key key key ≡ true
itself_key (OfJudged text) = itself text
itself_key (OfHeavy text) = itself text

has_own : (groups : List FileGroup) (path : List ℕ) (key : Option GroupKey) → has_group (with_file groups path key) key ≡ true
has_own groups path None = refl
has_own groups path (Some key) = go (group_with groups key) refl
  where
    go : (found : Option FileGroup) → group_with groups key ≡ found → is_some (group_with (with_file groups path (Some key)) key) ≡ true
    go None none = rw (is_opened groups path key none, with_opened groups path key key, none, itself_key key) refl
    go (Some group) is = rw (not_opened groups path key (ap (λ (o : Option FileGroup). is_some o) is), is) refl

abbrev pub Step : List FileGroup → List ℕ × Judgement → List FileGroup
Step groups j = with_file groups j.0 (key_of j.1)

-- the files so far have groups, and those behind them then
all_have : (groups : List FileGroup) (before js : List (List ℕ × Judgement)) → HaveGroups groups before → HaveGroups (fold Step groups js) (before ++ js)
all_have groups before [] have = rw (append-nil before) have
all_have groups before (j ∷ js) have =
    let more : HaveGroups (Step groups j) (before ++ j ∷ []) =
    list_all-append (λ (k : List ℕ × Judgement). has_group (Step groups j) (key_of k.1)) before (j ∷ [])
    ∙ and_from (list_all (λ k. has_group (Step groups j) (key_of k.1)) before) (list_all (λ k. has_group (Step groups j) (key_of k.1)) (j ∷ []))
    (all_still groups j.0 (key_of j.1) before have)
    (and_from (has_group (Step groups j) (key_of j.1)) true (has_own groups j.0 (key_of j.1)) refl) in
    rw append_assoc at (all_have (Step groups j) (before ++ j ∷ []) js more)

pub among_have : (js : List (List ℕ × Judgement)) → HaveGroups (groups_among js) js
among_have js = all_have [] [] js refl

same_row : (ending : Ending) (groups : List FileGroup) (path : List ℕ) (more : Option GroupKey) (j : List ℕ × Judgement) (key : Option GroupKey)
    → key_of j.1 ≡ key
    → has_group groups key ≡ true → group_row ending (with_file groups path more) j.0 j.1 ≡ group_row ending groups j.0 j.1
same_row ending groups path more j None is has = rw is refl
same_row ending groups path more j (Some key) is has =
    rw is (ap (λ (o : Option FileGroup). row_text ending (option_map shown o) j.0 (fault_judged j.1)) (group_stays groups path more key has))

rows_stay : (ending : Ending) (groups : List FileGroup) (path : List ℕ) (more : Option GroupKey) (js : List (List ℕ × Judgement)) → HaveGroups groups js
    → group_rows ending (with_file groups path more) js ≡ group_rows ending groups js
rows_stay ending groups path more [] have = refl
rows_stay ending groups path more (j ∷ js) have =
    let both = and_parts (has_group groups (key_of j.1)) (list_all (λ j. has_group groups (key_of j.1)) js) have in
    ap₂ (λ (xs ys : List ℕ). xs ++ ys) (same_row ending groups path more j (key_of j.1) refl both.0) (rows_stay ending groups path more js both.1)

-- a row is printed behind the others
pub group_table_more : (ending : Ending) (js : List (List ℕ × Judgement)) (path : List ℕ) (j : Judgement) (text printed : List ℕ) (attempts : List Attempt)
    → text ≡ group_row ending (groups_among (js ++ (path, j) ∷ [])) path j → PrintsOnly (MakesGroupTable ending) js printed attempts
    → PrintsOnly (MakesGroupTable ending) (js ++ (path, j) ∷ []) (printed ++ text) (attempts ++ [])
group_table_more ending js path j text printed attempts is shows = (
  ap₂ (λ (xs ys : List ℕ). xs ++ ys) shows.0 is
      ∙ append_assoc (table_header ending) (group_rows ending (groups_among js) js) (group_row ending (groups_among (js ++ (path, j) ∷ [])) path j)
      ∙ ap (λ (rows : List ℕ). table_header ending ++ rows) (sym all_rows),
  rw shows.1 refl,
)
  where
    after : List FileGroup
    after = groups_among (js ++ (path, j) ∷ [])

    all_rows : group_rows ending after (js ++ (path, j) ∷ []) ≡ group_rows ending (groups_among js) js ++ group_row ending after path j
    all_rows =
        flat_map-append (λ (k : List ℕ × Judgement). group_row ending after k.0 k.1) js ((path, j) ∷ [])
        ∙ ap₂ (λ (xs ys : List ℕ). xs ++ ys)
        (ap (λ (groups : List FileGroup). group_rows ending groups js) (among_more js path j) ∙ rows_stay ending (groups_among js) path (key_of j) js
        (among_have js))
        (append-nil (group_row ending after path j))

-- ---- what is kept with a number, as the code has it

entry_read : (found : List (Vec ℕ Global × ℕ)) (number : ℕ) → slice_get (found_paths found) number
    ≡ option_map (λ e. (e.0.items, e.1)) (slice_get found number)
entry_read found number = slice_get-map (λ (e : Vec ℕ Global × ℕ). (e.0.items, e.1)) found number

pub entry_at : (found : List (Vec ℕ Global × ℕ)) (number : ℕ) (entry : Option (Bor (Vec ℕ Global × ℕ))) → IsItemAt found number entry
    → shown_entry entry ≡ slice_get (found_paths found) number
entry_at found number None at =
    rw (entry_read found number, slice_get_past found number (ltb-false number (length found) (sym at.0))) refl
entry_at found number (Some entry) at =
    let is : slice_get found number ≡ Some entry.now =
    slice_get-get_or found number entry.now (ltb-true number (length found) (sym at.0)) ∙ ap (λ (e : Vec ℕ Global × ℕ). Some e) (sym at.1) in
    rw (entry_read found number, is) refl
