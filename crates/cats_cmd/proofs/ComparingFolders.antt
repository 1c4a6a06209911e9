-- The paths below two folders: those of both lists, sorted, each once. And a search among sorted files finds each of them.
use Rattle.cats_cmd.proofs.Common.{◌≡◌, ℕ, ◌≤◌, ◌<◌, ◌+◌, List, [], ◌∷◌, ◌++◌, length, map, take, drop, get_or, refl, sym, ap, ◌∙◌, subst, arith, inl, inr, ◌⊎◌}
use Rattle.cats_cmd.proofs.Common.{⊎_elim, Bool, true, false, Global, Vec, All, IsPermutation, IsSorted, IsFiltered, DiffersFromLast, dedup_is, nat_cmp}
use Rattle.cats_cmd.proofs.Common.{slice_cmp, Ordering, Less, nat_eq, paths_of, with_slash, BeginsWith, IsBelow, ListsFolder, pointwise, on_texts, texts_ties}
use Rattle.cats_cmd.proofs.Common.{IsStrictlySortedBy-dedup, length-map, get_or-map, take_all, append_assoc, map_push, Result, Ok, Err}
use Rattle.std.proofs.lemmas.List.{map_more}
use Rattle.std.specs.Prelude.{is_ok}
use Rattle.cats_cmd.proofs.Walking.{rising}
use Rattle.cats_cmd.specs.ComparedFolders.{ArePathsBelow, FoundFolder, FoundFolders, IsIn}
use Rattle.cats_cmd.specs.Internal.Comparing.{ListsBoth}
use Rattle.cats_cmd.specs.Stores.{path_in}
use Rattle.cats_cmd.specs.TextPaths.{path_below}
use Rattle.std.proofs.Common.{Equal, Greater}
use Rattle.std.proofs.Math.Seq.{drop-append_seam}
use Rattle.std.proofs.lemmas.List.Elements.{Contains-append_cases, Contains-append_left, Contains-append_right}
use Rattle.std.proofs.lemmas.List.Kept.{Any-dedup, Contains-from_dedup}
use Rattle.std.proofs.lemmas.List.Sorted.{Contains-permutation, IsPermutation-sym, searchable_from_sorted}
use Rattle.std.proofs.lemmas.Map.Keys.{Less-from_sorted}
use Rattle.std.proofs.lemmas.Map.Text.{is_eq-slice_cmp}
use Rattle.std.proofs.lemmas.Slice.Eq.{bytes_eq-Decides}
use Rattle.std.specs.Cmp.Lexicographic.{nat_list_cmp_total, on_texts_equal}
use Rattle.std.specs.List.{Contains, dedup}
use Rattle.std.specs.List.Sorted.{IsBinarySearchResult, IsSearchInRange, IsSortedBy, IsStrictlySortedBy}
use Rattle.std.specs.Ordering.{is_eq, is_lt, ordering_reverse}
use Rattle.valuation.specs.Lemmas.Lists.{Contains-map, Contains-unmap}

-- ---- the paths of one folder

below_rest : (folder path : List ℕ) → path_below folder (path_in folder path) ≡ path
below_rest folder path = drop-append_seam (with_slash folder) path

abbrev below : FoundFolder → List (List ℕ)
below folder = map (path_below folder.path) folder.files

in_below : (folder : FoundFolder) (path : List ℕ) → IsIn folder path → Contains (below folder) path
in_below folder path is = subst (Contains (below folder)) (below_rest folder.path path)
    (Contains-map (path_below folder.path) folder.files (path_in folder.path path) is)

holds_of : {X : Type 0} (P : X → Type 0) (xs : List X) (x : X) → All P xs → Contains xs x → P x
holds_of P xs x all there = subst P there.2 (all there.0 x there.1)

below_in : (folder : FoundFolder) → ListsFolder folder.path folder.files → (path : List ℕ) → Contains (below folder) path → IsIn folder path
below_in folder lists path there =
    let from = Contains-unmap (path_below folder.path) folder.files path there in
    let begins = holds_of (IsBelow folder.path) folder.files from.0 lists.below from.1 in
    let rest : begins.0 ≡ path = sym (from.2 ∙ ap (path_below folder.path) begins.1 ∙ below_rest folder.path begins.0) in
    subst (Contains folder.files) (begins.1 ∙ ap (path_in folder.path) rest) from.1

-- ---- those of both, each once

abbrev same_path : Vec ℕ Global → Vec ℕ Global → Bool
same_path p q = pointwise nat_eq p.items q.items

abbrev items_of : Vec ℕ Global → List ℕ
items_of p = p.items

same_bytes : (xs ys : List ℕ) → pointwise nat_eq xs ys ≡ true → xs ≡ ys
same_bytes xs ys same = (bytes_eq-Decides xs ys).0 (sym (is_eq-slice_cmp xs ys) ∙ sym (texts_ties xs ys) ∙ same)

kept : (sorted : List (Vec ℕ Global)) (path : List ℕ) → Contains (paths_of sorted) path → Contains (paths_of (dedup same_path sorted)) path
kept sorted path there =
    let from = Contains-unmap items_of sorted path there in
    let one = Any-dedup (on_texts_equal items_of) sorted from.0 from.1 in
    let is : from.0.items ≡ one.1.items = same_bytes from.0.items one.1.items one.4 in
    subst (Contains (paths_of (dedup same_path sorted))) (sym (from.2 ∙ is))
    (Contains-map items_of (dedup same_path sorted) one.1 (one.0, one.2, one.3))

kept_from : (sorted : List (Vec ℕ Global)) (path : List ℕ) → Contains (paths_of (dedup same_path sorted)) path → Contains (paths_of sorted) path
kept_from sorted path there =
    let from = Contains-unmap items_of (dedup same_path sorted) path there in
    subst (Contains (paths_of sorted)) (sym from.2) (Contains-map items_of sorted from.0 (Contains-from_dedup same_path sorted from.0 from.1))

moved : (all sorted : List (Vec ℕ Global)) (path : List ℕ) → IsPermutation all sorted → Contains (paths_of all) path → Contains (paths_of sorted) path
moved all sorted path moves there =
    let from = Contains-unmap items_of all path there in
    subst (Contains (paths_of sorted)) (sym from.2) (Contains-map items_of sorted from.0 (Contains-permutation all sorted from.0 moves from.1))

pub are_paths_below : (folders : FoundFolders) → ListsBoth folders → (none one all sorted once : List (Vec ℕ Global)) → none ≡ []
    → paths_of one ≡ paths_of none ++ map (path_below folders.left.path) folders.left.files
    → paths_of all ≡ paths_of one ++ map (path_below folders.right.path) folders.right.files
    → IsPermutation all sorted → IsSorted (λ p q. slice_cmp nat_cmp p.items q.items) sorted
    → IsFiltered (DiffersFromLast same_path) [] sorted once → ArePathsBelow folders (paths_of once)
are_paths_below folders lists none one all sorted once empty left both moves in_order filtered =
    let is_once = dedup_is same_path sorted once filtered in
    let first : paths_of one ≡ below folders.left = rw empty at left in
    let whole : paths_of all ≡ below folders.left ++ below folders.right = both ∙ ap (λ (ps : List (List ℕ)). ps ++ below folders.right) first in
    record {
      sorted = rising once (rw is_once (IsStrictlySortedBy-dedup (on_texts items_of) (λ p q. texts_ties p.items q.items) sorted in_order));
      below = λ path there. ⊎_elim (λ (l : Contains (below folders.left) path). inl (below_in folders.left lists.left path l))
          (λ (r : Contains (below folders.right) path). inr (below_in folders.right lists.right path r))
          (Contains-append_cases (below folders.left) (below folders.right) path
          (subst (λ (ps : List (List ℕ)). Contains ps path) whole
          (moved sorted all path (IsPermutation-sym all sorted moves) (kept_from sorted path (rw is_once at there)))));
      all = λ path there. rw is_once (kept sorted path (moved all sorted path moves
          (subst (λ (ps : List (List ℕ)). Contains ps path) (sym whole) (⊎_elim
          (λ (l : IsIn folders.left path). Contains-append_left (below folders.left) (below folders.right) path (in_below folders.left path l))
          (λ (r : IsIn folders.right path). Contains-append_right (below folders.left) (below folders.right) path (in_below folders.right path r))
          there))));
    }

abbrev behind : List ℕ → Vec ℕ Global → List ℕ
behind folder file = path_below folder file.items

-- one file more
pub push_more : (folder : List ℕ) (old : List (List ℕ)) (files now new : List (Vec ℕ Global)) (i : ℕ) (d path : Vec ℕ Global) → i < length files
    → paths_of now ≡ old ++ map (λ f. path_below folder f.items) (take i files) → path.items ≡ path_below folder (get_or files i d).items
    → new ≡ now ++ path ∷ [] → paths_of new ≡ old ++ map (λ f. path_below folder f.items) (take (i + 1) files)
push_more folder old files now new i d path l before is more =
    ap paths_of more ∙ map_push items_of now path ∙ ap (λ (ps : List (List ℕ)). ps ++ path.items ∷ []) before
    ∙ append_assoc old (map (behind folder) (take i files)) (path.items ∷ [])
    ∙ ap (λ (ps : List (List ℕ)). old ++ ps) (ap (λ (p : List ℕ). map (behind folder) (take i files) ++ p ∷ []) is
    ∙ sym (map_more (behind folder) files i d l))

all_files : (folder : List ℕ) (files : List (Vec ℕ Global)) → map (path_below folder) (paths_of files) ≡ map (λ f. path_below folder f.items) files
all_files folder [] = refl
all_files folder (f ∷ fs) = ap (λ (ps : List (List ℕ)). path_below folder f.items ∷ ps) (all_files folder fs)

-- these were all
pub pushed : (folder : List ℕ) (old new : List (List ℕ)) (files : List (Vec ℕ Global)) (i : ℕ) → length files ≤ i
    → new ≡ old ++ map (λ f. path_below folder f.items) (take i files) → new ≡ old ++ map (path_below folder) (paths_of files)
pushed folder old new files i most is = rw (all_files folder files) (rw (take_all i files most) at is)

-- ---- a search

abbrev by_text : Vec ℕ Global → Vec ℕ Global → Ordering
by_text p q = slice_cmp nat_cmp p.items q.items

not_below : (r s : Ordering) → r ≡ Less → s ≡ ordering_reverse r → is_lt s ≡ false
not_below r s less is = rw (is, less) refl

rises : (files : List (Vec ℕ Global)) → IsStrictlySortedBy (slice_cmp nat_cmp) (paths_of files)
    → IsSortedBy (λ a b. is_lt (slice_cmp nat_cmp a.items b.items)) files
rises files sorted k d least most =
    let long = length-map files items_of in
    let before = get_or-map items_of files k d d.items (omega (arith, most)) in
    let after = get_or-map items_of files (k + 1) d d.items most in
    let less : slice_cmp nat_cmp (get_or files k d).items (get_or files (k + 1) d).items ≡ Less =
    rw (before, after) at (Less-from_sorted (slice_cmp nat_cmp) (paths_of files) k (k + 1) d.items sorted (omega arith) (rw long most)) in
    not_below (slice_cmp nat_cmp (get_or files k d).items (get_or files (k + 1) d).items)
    (slice_cmp nat_cmp (get_or files (k + 1) d).items (get_or files k d).items) less
    (nat_list_cmp_total.antisymm (get_or files (k + 1) d).items (get_or files k d).items)

is_there : (files : List (Vec ℕ Global)) (x : Vec ℕ Global) (i : ℕ) → i < length files → by_text (get_or files i x) x ≡ Equal
    → Contains (paths_of files) x.items
is_there files x i l equal =
    let same : (get_or files i x).items ≡ x.items = (bytes_eq-Decides (get_or files i x).items x.items).0
    (sym (is_eq-slice_cmp (get_or files i x).items x.items) ∙ ap is_eq equal) in
    (i, rw (length-map files items_of) l, get_or-map items_of files i x x.items l ∙ same)

not_itself : (xs ys : List ℕ) (r : Ordering) → xs ≡ ys → slice_cmp nat_cmp xs ys ≡ r → is_eq r ≡ false → ⊥
not_itself xs ys r same is other =
    let yes : is_eq (slice_cmp nat_cmp xs ys) ≡ true = is_eq-slice_cmp xs ys ∙ (bytes_eq-Decides xs ys).1 same in
    let no : is_eq (slice_cmp nat_cmp xs ys) ≡ false = ap is_eq is ∙ other in
    absurd (cc)

not_there : (files : List (Vec ℕ Global)) (x : Vec ℕ Global) (i : ℕ) → IsStrictlySortedBy (slice_cmp nat_cmp) (paths_of files)
    → IsBinarySearchResult (λ y. by_text y x) files (Err i) → Contains (paths_of files) x.items → ⊥
not_there files x i sorted searched there =
    let from = Contains-unmap items_of files x.items there in
    let k = from.1.0 in
    let parts = searched (searchable_from_sorted nat_list_cmp_total items_of files x.items (rises files sorted)) in
    let same : (get_or files k from.0).items ≡ x.items = ap items_of from.1.2 ∙ sym from.2 in
    let before : k < i → ⊥ = λ l. not_itself (get_or files k from.0).items x.items Less same (parts.0 k from.0 (omega arith) l) refl in
    let after : i ≤ k → ⊥ = λ l. not_itself (get_or files k from.0).items x.items Greater same (parts.1 k from.0 l from.1.1) refl in
    after (omega (arith, before))

pub search_found : (files : List (Vec ℕ Global)) (x : Vec ℕ Global) (r : Result ℕ ℕ) → IsSearchInRange r (length files)
    → IsBinarySearchResult (λ y. by_text y x) files r → (b : Bool) → b ≡ is_ok r → b ≡ true → Contains (paths_of files) x.items
search_found files x (Ok i) in_range searched b is found = is_there files x i in_range (searched x)
search_found files x (Err i) in_range searched b is found = absurd (cc)

pub search_lost : (files : List (Vec ℕ Global)) (x : Vec ℕ Global) (r : Result ℕ ℕ) → IsStrictlySortedBy (slice_cmp nat_cmp) (paths_of files)
    → IsBinarySearchResult (λ y. by_text y x) files r → (b : Bool) → b ≡ is_ok r → b ≡ false → Contains (paths_of files) x.items → ⊥
search_lost files x (Ok i) sorted searched b is lost = absurd (cc)
search_lost files x (Err i) sorted searched b is lost = not_there files x i sorted searched
