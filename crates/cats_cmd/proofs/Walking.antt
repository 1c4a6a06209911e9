-- A walk through folders. What is added to it begins as the folder's path that it was found in, so all of it stays below the first folder.
use Rattle.cats_cmd.proofs.Common.{◌≡◌, ℕ, List, [], ◌∷◌, ◌++◌, refl, sym, ap, ◌∙◌, subst, true, false, cond, append-nil, length, arith, Global, IsPermutation}
use Rattle.cats_cmd.proofs.Common.{nat_eq, ends_with, IsSorted, nat_cmp, slice_cmp, append_assoc, get_or_append_left, All-append, All-map, All-nil, Ordering}
use Rattle.cats_cmd.proofs.Common.{All-push, All-permutation, get_or-append_seam, BeginsWith, IsBelow, ListsFolder, paths_of, with_slash}
use Rattle.cats_cmd.proofs.Common.{WalksBelow, Walk, Vec, All, length-append, Bool, Less, AllByRecursion, IsFiltered, DiffersFromLast, All-dedup, dedup_is}
use Rattle.cats_cmd.proofs.Common.{IsStrictlySortedBy-dedup, on_texts, pointwise, texts_ties}
use Rattle.std.specs.List.Sorted.{IsStrictlySortedBy}

abbrev pub Begins : List ℕ → Vec ℕ Global → Type 0
Begins start path = BeginsWith start path.items

pub begins_more : (start path more : List ℕ) → BeginsWith start path → (longer : List ℕ) → longer ≡ path ++ more → BeginsWith start longer
begins_more start path more begins longer is = (begins.0 ++ more, is ∙ ap (λ (p : List ℕ). p ++ more) begins.1 ∙ append_assoc start begins.0 more)

pub begins_itself : (path : List ℕ) → BeginsWith path path
begins_itself path = ([], sym (append-nil path))

-- a slash behind a path, unless it has one
slash_of : (path : List ℕ) → BeginsWith path (with_slash path)
slash_of path = elim (ends_with nat_eq path (47 ∷ [])) as (λ b. BeginsWith path (cond b path (path ++ 47 ∷ []))) [
  | true ↦ begins_itself path
  | false ↦ (47 ∷ [], refl)
]

pub slash_begins : (start path longer : List ℕ) → longer ≡ with_slash path → BeginsWith start path → BeginsWith start longer
slash_begins start path longer is begins = begins_more start path (slash_of path).0 begins longer (is ∙ (slash_of path).1)

pub starts_below : (start : List ℕ) (walk : Walk) → walk.folders.items ≡ [] → walk.found.items ≡ [] → WalksBelow start walk
starts_below start walk folders found = record {
  folders = subst (All (Begins start)) (sym folders) (All-nil (Begins start));
  found = subst (All (Begins start)) (sym found) (All-nil (Begins start));
}

pub all_more : (start : List ℕ) (old new : List (Vec ℕ Global)) (path : Vec ℕ Global) → new ≡ old ++ path ∷ [] → Begins start path
    → All (λ p. BeginsWith start p.items) old → All (λ p. BeginsWith start p.items) new
all_more start old new path is begins all = subst (All (Begins start)) (sym is) (All-push (Begins start) old path all begins)

-- the last one is taken away
pub all_fewer : (start : List ℕ) (old new : List (Vec ℕ Global)) (path : Vec ℕ Global) → old ≡ new ++ path ∷ []
    → All (λ p. BeginsWith start p.items) old → All (λ p. BeginsWith start p.items) new × BeginsWith start path.items
all_fewer start old new path is all =
    let both = subst (All (Begins start)) is all in (
      λ k d l. subst (Begins start) (get_or_append_left new (path ∷ []) d k l)
          (both k d (rw (length-append new (path ∷ [])) (omega (arith, l)))),
      subst (Begins start) (get_or-append_seam new path [] path)
          (both (length new) path (rw (length-append new (path ∷ [])) (omega arith))),
    )

-- ---- paths in order, each once

abbrev before : Vec ℕ Global → Vec ℕ Global → Ordering
before p q = slice_cmp nat_cmp p.items q.items

all_after : (p : Vec ℕ Global) (ps : List (Vec ℕ Global)) → AllByRecursion (λ q. before p q ≡ Less) ps
    → AllByRecursion (λ q. slice_cmp nat_cmp p.items q ≡ Less) (paths_of ps)
all_after p [] after = tt
all_after p (q ∷ ps) after = (after.0, all_after p ps after.1)

pub rising : (ps : List (Vec ℕ Global)) → IsStrictlySortedBy before ps → IsStrictlySortedBy (slice_cmp nat_cmp) (paths_of ps)
unfolding IsStrictlySortedBy
rising [] rise = tt
rising (p ∷ ps) rise = (all_after p ps rise.0, rising ps rise.1)

-- the paths that a walk ends with
pub lists_folder : (folder : List ℕ) (found folders all sorted once : List (Vec ℕ Global)) → All (λ p. IsBelow folder p.items) found
    → All (λ p. IsBelow folder p.items) folders → all ≡ found ++ folders → IsPermutation all sorted → IsSorted before sorted
    → IsFiltered (DiffersFromLast (λ p q. pointwise nat_eq p.items q.items)) [] sorted once → ListsFolder folder (paths_of once)
lists_folder folder found folders all sorted once files more is moves in_order filtered =
    let same : Vec ℕ Global → Vec ℕ Global → Bool = λ p q. pointwise nat_eq p.items q.items in
    let is_once = dedup_is same sorted once filtered in
    record {
      below = All-map (IsBelow folder) (λ (p : Vec ℕ Global). p.items) once
          (rw is_once (All-dedup same (Begins (with_slash folder)) sorted
          (All-permutation (Begins (with_slash folder)) all sorted moves
          (subst (All (Begins (with_slash folder))) (sym is) (All-append (Begins (with_slash folder)) found folders files more)))));
      sorted = rising once
          (rw is_once (IsStrictlySortedBy-dedup (on_texts (λ (p : Vec ℕ Global). p.items)) (λ p q. texts_ties p.items q.items) sorted in_order));
    }
