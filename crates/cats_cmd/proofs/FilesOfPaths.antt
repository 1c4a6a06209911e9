-- The files at paths: each path adds its own behind those of the paths before it. And how each file is opened.
use Rattle.cats_cmd.proofs.Common.{◌≡◌, inl, inr, ℕ, ◌+◌, ◌<◌, ◌≤◌, length, get_or, take, List, [], ◌∷◌, ◌++◌, map, refl, sym, ap, ap₂, ◌∙◌, subst, Option}
use Rattle.cats_cmd.proofs.Common.{Some, None, Result, Ok, Err, append-nil, take_all, Bor, Global, IfOk, AllocError, flat_map, IsUtf8, is_utf8}
use Rattle.cats_cmd.proofs.Common.{false_from_ne_true, map-append, map_push, All-push, flat_map-append, IsUtf8-from_is_utf8, is_utf8-from_IsUtf8}
use Rattle.cats_cmd.proofs.Common.{Finds, FindsAt, FoundAt, AreFilesAt, AreMadeAt, files_at, files_of, found_of, paths_of, Vec, FilePath, Opening, Way, in_way}
use Rattle.cats_cmd.proofs.Common.{opening_of, openings_at, openings_found}
use Rattle.cats_cmd.proofs.JudgingPaths.{one_more_path}
use Rattle.cats_cmd.specs.declared.source.Way.TheVariants.{Regular}
use Rattle.std.proofs.lemmas.Simd.{map-map}

module _ (may_find : List ℕ → Option (List (List ℕ)) → Type 0) where
  -- what is found at a path that is text
  pub found_at_text : (path text : List ℕ) → text ≡ path → IsUtf8 path → (answer : Result (Option (Vec (Vec ℕ Global) Global)) AllocError)
      → IfOk answer (λ found. Finds may_find text (found_of found)) → IfOk answer (λ found. FindsAt may_find path (found_of found))
  found_at_text path text same valid (Ok None) finds = inl (subst (λ (p : List ℕ). may_find p None) same finds)
  found_at_text path text same valid (Ok (Some files)) finds =
      subst (λ (p : List ℕ). FindsAt may_find p (Some (paths_of files.items))) same
      (is_utf8-from_IsUtf8 text (subst IsUtf8 (sym same) valid), finds.0, finds.1)
  found_at_text path text same valid (Err e) finds = tt

  -- nothing is looked for at another
  pub found_at_none : (path : List ℕ) → (IsUtf8 path → ⊥) → FindsAt may_find path None
  found_at_none path broken = inr (false_from_ne_true (is_utf8 path) (λ e. broken (IsUtf8-from_is_utf8 path e)))

  module _ {A : Type 0} (made_of : FoundAt → List A) where
    one_more : (paths : List (List ℕ)) (made : List A) (at : FoundAt) → AreMadeAt may_find made_of paths made → FindsAt may_find at.path at.found
        → AreMadeAt may_find made_of (paths ++ at.path ∷ []) (made ++ made_of at)
    one_more paths made at so_far finds = record {
      found = so_far.found ++ at ∷ [];
      of_paths = map_push (λ (f : FoundAt). f.path) so_far.found at ∙ ap (λ (ps : List (List ℕ)). ps ++ at.path ∷ []) so_far.of_paths;
      finds = All-push (λ (f : FoundAt). FindsAt may_find f.path f.found) so_far.found at so_far.finds finds;
      is = ap (λ (all : List A). all ++ made_of at) so_far.is
          ∙ ap (λ (all : List A). flat_map made_of so_far.found ++ all) (sym (append-nil (made_of at)))
          ∙ sym (flat_map-append made_of so_far.found (at ∷ []));
    }

    -- what is made of one more path is behind what is made of the paths before it
    pub next_made : (paths : List (Bor (List ℕ))) (i : ℕ) (d : Bor (List ℕ)) → i < length paths → (before after : List A)
        → AreMadeAt may_find made_of (map (λ p. p.now) (take i paths)) before → (found : Option (List (List ℕ)))
        → FindsAt may_find (get_or paths i d).now found
        → after ≡ before ++ made_of (record { path = (get_or paths i d).now; found = found })
        → AreMadeAt may_find made_of (map (λ p. p.now) (take (i + 1) paths)) after
    next_made paths i d l before after so_far found finds is =
        rw (one_more_path paths i d l, is)
        (one_more (map (λ (p : Bor (List ℕ)). p.now) (take i paths)) before (record { path = (get_or paths i d).now; found = found }) so_far finds)

-- ---- the files below one folder

-- what is kept of each of them was kept one by one
pub all_below : {A : Type 0} (kept : List ℕ → A) (files : List (Vec ℕ Global)) (i : ℕ) (first after : List A) → length files ≤ i
    → after ≡ first ++ map (λ p. kept p.items) (take i files) → after ≡ first ++ map kept (paths_of files)
all_below kept files i first after most is = rw (map-map kept (λ (p : Vec ℕ Global). p.items) files) (rw (take_all i files most) at is)

-- ---- how they are opened

-- the files below a folder were taken one by one, and these were all
pub openings_below : (way : Way) (path : List ℕ) (found : Option (List (List ℕ))) (done rest : List (Vec ℕ Global)) (first after : List Opening)
    → found ≡ Some (paths_of (done ++ rest)) → rest ≡ [] → after ≡ first ++ map (λ p. (p.items, Regular)) done
    → after ≡ first ++ openings_found way path found
openings_below way path found done rest first after is none all =
    rw (is, none, append-nil done, map-map {C = Opening} (λ (p : List ℕ). (p, Regular)) (λ (p : Vec ℕ Global). p.items) done) all

paths_in_way : (way : Way) (paths : List (List ℕ)) → map (λ (o : Opening). o.0) (in_way way paths) ≡ paths
paths_in_way way [] = refl
paths_in_way way (path ∷ paths) = ap (λ (ps : List (List ℕ)). path ∷ ps) (paths_in_way way paths)

paths_found : (way : Way) (path : List ℕ) (found : Option (List (List ℕ))) → map (λ (o : Opening). o.0) (openings_found way path found) ≡ files_of path found
paths_found way path None = refl
paths_found way path (Some files) = paths_in_way _ files

paths_opened : (way : Way) (found : List FoundAt) → map (λ (o : Opening). o.0) (flat_map (openings_at way) found) ≡ flat_map files_at found
paths_opened way [] = refl
paths_opened way (at ∷ found) =
    map-append (λ (o : Opening). o.0) (openings_at way at) (flat_map (openings_at way) found)
    ∙ ap₂ (λ (xs ys : List (List ℕ)). xs ++ ys) (paths_found way at.path at.found) (paths_opened way found)

pub paths_to_open : (files : List FilePath) → map (λ (o : Opening). o.0) (map opening_of files) ≡ map (λ file. file.path.now) files
paths_to_open [] = refl
paths_to_open (file ∷ files) = ap (λ (ps : List (List ℕ)). file.path.now ∷ ps) (paths_to_open files)

-- what is opened at paths are the files at these paths
pub files_opened : (may_find : List ℕ → Option (List (List ℕ)) → Type 0) (way : Way) (paths : List (List ℕ)) (files : List FilePath)
    → AreMadeAt may_find (openings_at way) paths (map opening_of files) → AreFilesAt may_find paths (map (λ file. file.path.now) files)
files_opened may_find way paths files h = record {
  found = h.found;
  of_paths = h.of_paths;
  finds = h.finds;
  is = sym (paths_to_open files) ∙ ap (map (λ (o : Opening). o.0)) h.is ∙ paths_opened way h.found;
}
