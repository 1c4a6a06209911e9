-- The texts of the files at paths: each path adds its own behind those of the paths before it. And texts with their numbers.
use Rattle.cats_cmd.proofs.Common.{◌≡◌, ◌⊎◌, inl, inr, ℕ, ◌+◌, ◌<◌, suc, zero, length, get_or, take, drop, List, [], ◌∷◌, ◌++◌, map, refl, sym, ap, ◌∙◌, subst}
use Rattle.cats_cmd.proofs.Common.{Option, Some, None, flat_map, Global, Vec, arith, true, false, cond, Bool, ⊎_elim, cases_Bool}
use Rattle.cats_cmd.proofs.Common.{ap₂, AreFilesAt, files_at, files_of, All, All-push, FoundAt, FilePath, Opening, opening_of}
use Rattle.cats_cmd.proofs.Common.{map-append}
use Rattle.cats_cmd.proofs.Common.{take_more, take_all, length-append, length-take-le, ◌≤◌}
use Rattle.cats_cmd.proofs.Common.{slice_get_within, take-append_seam, get_or-append_seam, append_assoc, length-map, BeginsWith, nat_cmp, slice_cmp}
use Rattle.cats_cmd.proofs.FilesOfPaths.{paths_to_open}
use Rattle.cats_cmd.specs.Internal.TextNumbers.{IsBelowOne, IsNumberOf, NumbersTexts, number_in, place_openings, plain_places}
use Rattle.cats_cmd.specs.TextPaths.{AreSeparate, AreTextPlaces, Collides, IsAtOrBelow, LeadsOut, PlacedText, leads_below, text_places_at}
use Rattle.cats_cmd.specs.TextPaths.{text_places_of, texts_at}
use Rattle.cats_cmd.specs.declared.text_paths.TextPlace.{TextPlace}
use Rattle.std.specs.BTreeMap.{BTreeMap}
use Rattle.std.specs.Prelude.{bytes_eq, slice_get}
use Rattle.std.proofs.Math.Seq.{split_at}
use Rattle.std.proofs.Math.Nat.{min-le_left}
use Rattle.std.proofs.lemmas.Bool.{cases_lt, false≢true}
use Rattle.std.proofs.lemmas.List.{length-take}
use Rattle.std.proofs.lemmas.Option.{get_or_from_slice_get, slice_get-get_or, slice_get-map}
use Rattle.std.proofs.lemmas.Slice.Eq.{bytes_eq-Decides}

-- ---- the files

below_back : (path : List ℕ) (files : List (List ℕ)) → map (λ (p : PlacedText). p.file) (text_places_of path (Some files)) ≡ files
below_back path [] = refl
below_back path (file ∷ files) = ap (λ (fs : List (List ℕ)). file ∷ fs) (below_back path files)

placed_back : (path : List ℕ) (found : Option (List (List ℕ))) → map (λ (p : PlacedText). p.file) (text_places_of path found) ≡ files_of path found
placed_back path None = refl
placed_back path (Some files) = below_back path files

placed_files : (found : List FoundAt) → map (λ (p : PlacedText). p.file) (flat_map text_places_at found) ≡ flat_map files_at found
placed_files [] = refl
placed_files (at ∷ found) =
    map-append (λ (p : PlacedText). p.file) (text_places_at at) (flat_map text_places_at found)
    ∙ ap₂ (λ (xs ys : List (List ℕ)). xs ++ ys) (placed_back at.path at.found) (placed_files found)

pub files_placed : (may_find : List ℕ → Option (List (List ℕ)) → Type 0) (paths : List (List ℕ)) (places : List PlacedText)
    → AreTextPlaces may_find paths places → AreFilesAt may_find paths (map (λ (p : PlacedText). p.file) places)
files_placed may_find paths places h = record {
  found = h.found;
  of_paths = h.of_paths;
  finds = h.finds;
  is = ap (λ (ps : List PlacedText). map (λ p. p.file) ps) h.is ∙ placed_files h.found;
}

-- ---- what is kept of them

abbrev placed : TextPlace → PlacedText
placed p = record { file = p.file.items; text = p.text.items }

-- the files that are opened are those of the places
pub placed_opened : (files : List FilePath) (places : List TextPlace) → map opening_of files ≡ place_openings places
    → map (λ file. file.path.now) files ≡ map (λ (p : PlacedText). p.file) (plain_places places)
placed_opened files places same = sym (paths_to_open files) ∙ ap (map (λ (o : Opening). o.0)) same ∙ back places where
  back : (places : List TextPlace) → map (λ (o : Opening). o.0) (place_openings places) ≡ map (λ (p : PlacedText). p.file) (plain_places places)
  back [] = refl
  back (place ∷ places) = ap (λ (ps : List (List ℕ)). place.file.items ∷ ps) (back places)

-- ---- texts by their numbers

pub texts_length : (places : List TextPlace) → length (texts_at (plain_places places)) ≡ length places
texts_length places = length-map (plain_places places) (λ (p : PlacedText). p.text) ∙ length-map places placed

pub text_there : (places : List TextPlace) (i : ℕ) (d : TextPlace) → i < length places
    → slice_get (texts_at (plain_places places)) i ≡ Some (get_or places i d).text.items
text_there places i d l =
    rw (slice_get-map (λ (p : PlacedText). p.text) (plain_places places) i, slice_get-map placed places i, slice_get-get_or places i d l) refl

pub text_at : (places : List TextPlace) (i : ℕ) (place : TextPlace) → place ≡ get_or places i place → i < length places
    → slice_get (texts_at (plain_places places)) i ≡ Some place.text.items
text_at places i place is l = text_there places i place l ∙ ap (λ (p : TextPlace). Some p.text.items) (sym is)

-- ---- one text more

get_old : {X : Type 0} (xs : List X) (y : X) (k : ℕ) (x : X) → slice_get xs k ≡ Some x → slice_get (xs ++ y ∷ []) k ≡ Some x
get_old [] y k x is = cc
get_old (z ∷ xs) y zero x is = is
get_old (z ∷ xs) y (suc k) x is = get_old xs y k x is

get_new : {X : Type 0} (xs : List X) (y : X) → slice_get (xs ++ y ∷ []) (length xs) ≡ Some y
get_new [] y = refl
get_new (x ∷ xs) y = get_new xs y

get_either : {X : Type 0} (xs : List X) (y : X) (k : ℕ) (x : X) → slice_get (xs ++ y ∷ []) k ≡ Some x
    → (slice_get xs k ≡ Some x) ⊎ ((k ≡ length xs) × (y ≡ x))
get_either [] y zero x is = inr (refl, cc)
get_either [] y (suc k) x is = cc
get_either (z ∷ xs) y zero x is = inl is
get_either (z ∷ xs) y (suc k) x is = ⊎_elim inl (λ (b : (k ≡ length xs) × (y ≡ x)). inr (ap suc b.0, b.1)) (get_either xs y k x is)

abbrev Numbers : Type 0
Numbers = BTreeMap (Vec ℕ Global) ℕ

module _ (texts : List (List ℕ)) (text : List ℕ) (number : Option ℕ) where
  -- the number of another text stays
  number_stays : (other : List ℕ) → (text ≡ other → ⊥) → (found : Option ℕ) → IsNumberOf texts other found → IsNumberOf (texts ++ text ∷ []) other found
  number_stays other apart None none =
      λ k there. ⊎_elim (none k) (λ (b : (k ≡ length texts) × (text ≡ other)). apart b.1) (get_either texts text k other there)
  number_stays other apart (Some n) there = get_old texts text n other there

pub numbers_more : (texts : List (List ℕ)) (text : List ℕ) (old new : Numbers) → NumbersTexts texts old → number_in old text ≡ None
    → ((other : List ℕ) → number_in new other ≡ cond (bytes_eq text other) (Some (length texts)) (number_in old other))
    → NumbersTexts (texts ++ text ∷ []) new
numbers_more texts text old new h none updated = record {
  numbers_each = λ other. rw (updated other) (go other (bytes_eq text other) refl);
  once = λ first second t one two. meet first second t (get_either texts text first t one) (get_either texts text second t two);
} where
  lacks : (k : ℕ) (t : List ℕ) → text ≡ t → slice_get texts k ≡ Some t → ⊥
  lacks k t same there =
      let none_there : IsNumberOf texts text None = subst (IsNumberOf texts text) none (h.numbers_each text) in
      none_there k (subst (λ (s : List ℕ). slice_get texts k ≡ Some s) (sym same) there)

  go : (other : List ℕ) (same : Bool) → bytes_eq text other ≡ same
      → IsNumberOf (texts ++ text ∷ []) other (cond same (Some (length texts)) (number_in old other))
  go other true is =
      let same : text ≡ other = (bytes_eq-Decides text other).0 is in
      subst (λ (t : List ℕ). slice_get (texts ++ text ∷ []) (length texts) ≡ Some t) same (get_new texts text)
  go other false is =
      number_stays texts text None other (λ same. false≢true (sym is ∙ (bytes_eq-Decides text other).1 same)) (number_in old other) (h.numbers_each other)

  meet : (first second : ℕ) (t : List ℕ) → (slice_get texts first ≡ Some t) ⊎ ((first ≡ length texts) × (text ≡ t))
      → (slice_get texts second ≡ Some t) ⊎ ((second ≡ length texts) × (text ≡ t)) → first ≡ second
  meet first second t (inl one) (inl two) = h.once first second t one two
  meet first second t (inl one) (inr two) = absurd (lacks first t two.1 one)
  meet first second t (inr one) (inl two) = absurd (lacks second t one.1 two)
  meet first second t (inr one) (inr two) = one.0 ∙ sym two.0

pub no_numbers : (numbers : Numbers) → numbers.entries ≡ [] → NumbersTexts [] numbers
no_numbers numbers empty = record {
  numbers_each = λ text. rw empty (λ k there. none k text there);
  once = λ first second text one two. absurd (none first text one);
} where
  none : (k : ℕ) (text : List ℕ) → slice_get [] k ≡ Some text → ⊥
  none k text there = cc

-- ---- the texts so far

pub take_next : {X : Type 0} (xs : List X) (i : ℕ) (x : X) → slice_get xs i ≡ Some x → take (i + 1) xs ≡ take i xs ++ x ∷ []
take_next {X} xs i x there =
    take_more xs i x (slice_get_within xs i x there) ∙ ap (λ (y : X). take i xs ++ y ∷ []) (get_or_from_slice_get xs i x x there)

get_taken : {X : Type 0} (xs : List X) (i k : ℕ) (x : X) → slice_get (take i xs) k ≡ Some x → slice_get xs k ≡ Some x
get_taken xs zero k x there = cc
get_taken [] (suc i) k x there = there
get_taken (y ∷ xs) (suc i) zero x there = there
get_taken (y ∷ xs) (suc i) (suc k) x there = get_taken xs i k x there

taken_below : {X : Type 0} (xs : List X) (i k : ℕ) (x : X) → slice_get (take i xs) k ≡ Some x → k < i
taken_below xs i k x there =
    let within = slice_get_within (take i xs) k x there in
    let short = length-take i xs in
    let least = min-le_left i (length xs) in
    omega (arith, within, short, least)

module _ (texts : List (List ℕ)) where
  pub numbers_next : (i : ℕ) (text : List ℕ) (old new : Numbers) → slice_get texts i ≡ Some text → NumbersTexts (take i texts) old
      → number_in old text ≡ None
      → ((other : List ℕ) → number_in new other ≡ cond (bytes_eq text other) (Some i) (number_in old other)) → NumbersTexts (take (i + 1) texts) new
  numbers_next i text old new there h none updated =
      let within = slice_get_within texts i text there in
      let long : length (take i texts) ≡ i = length-take-le i texts (omega (arith, within)) in
      rw (take_next texts i text there)
      (numbers_more (take i texts) text old new h none (λ other. rw long (updated other)))

  -- two texts are the same
  pub same_texts : (i first : ℕ) (text : List ℕ) (numbers : Numbers) → slice_get texts i ≡ Some text → NumbersTexts (take i texts) numbers
      → number_in numbers text ≡ Some first → Collides texts first i
  same_texts i first text numbers there h found =
      let before : slice_get (take i texts) first ≡ Some text = subst (IsNumberOf (take i texts) text) found (h.numbers_each text) in
      let below = taken_below texts i first text before in
      record {
        above = text;
        path = text;
        has_first = get_taken texts i first text before;
        has_second = there;
        two = λ same. omega (arith, below, same);
        meet = inl refl;
      }

  pub all_numbered : (i : ℕ) (numbers : Numbers) → length texts ≤ i → NumbersTexts (take i texts) numbers → NumbersTexts texts numbers
  all_numbered i numbers most h = rw (take_all i texts most) at h

  -- ---- texts that are below the folder

  pub leads_next : (i : ℕ) (text : List ℕ) → slice_get texts i ≡ Some text → leads_below text ≡ true → All (λ t. leads_below t ≡ true) (take i texts)
      → All (λ t. leads_below t ≡ true) (take (i + 1) texts)
  leads_next i text there leads before =
      rw (take_next texts i text there) (All-push (λ (t : List ℕ). leads_below t ≡ true) (take i texts) text before leads)

  pub all_lead : (i : ℕ) → length texts ≤ i → All (λ t. leads_below t ≡ true) (take i texts) → All (λ t. leads_below t ≡ true) texts
  all_lead i most all = rw (take_all i texts most) at all

  -- ---- texts that are below another one

  -- no path of a folder in the first texts has a number
  abbrev pub NoneBelow : Numbers → ℕ → Type 0
  NoneBelow numbers i = (k : ℕ) (path above : List ℕ) → k < i → slice_get texts k ≡ Some path → BeginsWith (above ++ 47 ∷ []) path
      → number_in numbers above ≡ None

  pub below_next : (numbers : Numbers) (i : ℕ) (path : List ℕ) → slice_get texts i ≡ Some path → IsBelowOne numbers path None → NoneBelow numbers i
      → NoneBelow numbers (i + 1)
  below_next numbers i path there none before k other above less is begins = ⊎_elim (λ (l : k < i). before k other above l is begins)
      (λ (same : k ≡ i).
      let one : Some path ≡ Some other = sym there ∙ ap (slice_get texts) (sym same) ∙ is in
      none above (subst (BeginsWith (above ++ 47 ∷ [])) (sym (some_same path other one)) begins))
      (last_or_before k i less)
    where
      some_same : (x y : List ℕ) → Some x ≡ Some y → x ≡ y
      some_same x y is = cc

      last_or_before : (k i : ℕ) → k < i + 1 → (k < i) ⊎ (k ≡ i)
      last_or_before k i less = ⊎_elim inl (λ (most : i ≤ k). inr (omega (arith, less, most))) (cases_lt k i)

  pub none_below : (numbers : Numbers) (i : ℕ) → NumbersTexts texts numbers → length texts ≤ i → NoneBelow numbers i → AreSeparate texts
  none_below numbers i h most none first second above path one two (inl same) =
      h.once first second path (subst (λ (t : List ℕ). slice_get texts first ≡ Some t) (sym same) one) two
  none_below numbers i h most none first second above path one two (inr begins) =
      let within = slice_get_within texts second path two in
      let lacks = none second path above (omega (arith, within, most)) two begins in
      absurd (subst (IsNumberOf texts above) lacks (h.numbers_each above) first one)

  pub one_below : (numbers : Numbers) (i first : ℕ) (path : List ℕ) → NumbersTexts texts numbers → slice_get texts i ≡ Some path
      → IsBelowOne numbers path (Some first) → Collides texts first i
  one_below numbers i first path h there below =
      let above = below.0 in
      let has : slice_get texts first ≡ Some above = subst (IsNumberOf texts above) below.2 (h.numbers_each above) in
      record {
        above = above;
        path = path;
        has_first = has;
        has_second = there;
        two = λ same. longer above path below.1 (cc_same above path (sym has ∙ ap (slice_get texts) same ∙ there));
        meet = inr below.1;
      }
    where
      cc_same : (x y : List ℕ) → Some x ≡ Some y → x ≡ y
      cc_same x y is = cc

      longer : (above path : List ℕ) → BeginsWith (above ++ 47 ∷ []) path → above ≡ path → ⊥
      longer above path begins same =
          let long = ap (length {A = ℕ}) (same ∙ begins.1) in
          let sum = length-append (above ++ 47 ∷ []) begins.0 in
          let one = length-append above (47 ∷ []) in
          omega (arith, long, sum, one)

-- ---- the folders in one path

module _ (numbers : Numbers) (text : List ℕ) where
  -- no path of a folder that is shorter has a number
  abbrev pub NoneShorter : ℕ → Type 0
  NoneShorter end = (above : List ℕ) → length above < end → BeginsWith (above ++ 47 ∷ []) text → number_in numbers above ≡ None

  begins_at : (above : List ℕ) (d : ℕ) → BeginsWith (above ++ 47 ∷ []) text → (get_or text (length above) d ≡ 47) × (take (length above) text ≡ above)
  begins_at above d begins =
      let is : text ≡ above ++ 47 ∷ begins.0 = begins.1 ∙ append_assoc above (47 ∷ []) begins.0 in
      (rw is (get_or-append_seam above 47 begins.0 d), rw is (take-append_seam above (47 ∷ begins.0)))

  pub shorter_next : (end d : ℕ) → (get_or text end d ≡ 47 → number_in numbers (take end text) ≡ None) → NoneShorter end → NoneShorter (end + 1)
  shorter_next end d none before above less begins =
      ⊎_elim (λ (l : length above < end). before above l begins)
      (λ (most : end ≤ length above).
      let same : length above ≡ end = omega (arith, less, most) in
      let at = begins_at above d begins in
      let there = none (subst (λ (n : ℕ). get_or text n d ≡ 47) same at.0) in
      subst (λ (t : List ℕ). number_in numbers t ≡ None) (ap (λ (n : ℕ). take n text) (sym same) ∙ at.1) there)
      (cases_lt (length above) end)

  pub none_shorter : (end : ℕ) → length text ≤ end → NoneShorter end → IsBelowOne numbers text None
  none_shorter end most none above begins =
      let long = ap (length {A = ℕ}) begins.1 in
      let sum = length-append (above ++ 47 ∷ []) begins.0 in
      let one = length-append above (47 ∷ []) in
      none above (omega (arith, most, long, sum, one)) begins

  pub folder_found : (end d number : ℕ) → end < length text → get_or text end d ≡ 47 → number_in numbers (take end text) ≡ Some number
      → IsBelowOne numbers text (Some number)
  folder_found end d number l slash found =
      let cut = split_at text end d l in (
        take end text,
        (
          drop (suc end) text,
          cut ∙ ap (λ (b : ℕ). take end text ++ b ∷ drop (suc end) text) slash ∙ sym (append_assoc (take end text) (47 ∷ []) (drop (suc end) text)),
        ),
        found,
      )
