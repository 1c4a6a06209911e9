-- The groups of `cats duplicates`: one more file has its number behind the others, among those that were judged or among those that a step
-- limit refused.
use Rattle.cats_cmd.proofs.Common.{◌≡◌, ℕ, ◌<◌, List, [], ◌∷◌, ◌++◌, length, ap, ◌∙◌, subst, append-nil, Global, Vec, AllByRecursion, AllZip, flat_map}
use Rattle.cats_cmd.proofs.Common.{flat_map-append, length-map, map-append, AllZip-long, All-from_recursion, slice_get_within, PlainFile, IsPlainFile}
use Rattle.cats_cmd.proofs.Common.{AddsText, IsFirstNumber, TextIndex, TellsRelated, first_number_stays, index_of_more, number_of_more, found_paths}
use Rattle.cats_cmd.proofs.Common.{KeepsNumbers, Judgement, All}

-- two lists that are as long, with one element more each
zip_push : {X Y : Type 0} (R S : X → Y → Type 0) (xs : List X) (ys : List Y) (x : X) (y : Y) → ((a : X) (b : Y) → R a b → S a b) → AllZip R xs ys → S x y
    → AllZip S (xs ++ x ∷ []) (ys ++ y ∷ [])
zip_push R S [] [] x y weaker h s = (s, tt)
zip_push R S [] (b ∷ ys) x y weaker h s = absurd h
zip_push R S (a ∷ xs) [] x y weaker h s = absurd h
zip_push R S (a ∷ xs) (b ∷ ys) x y weaker h s = (weaker a b h.0, zip_push R S xs ys x y weaker h.1 s)

-- files, of which those are related that have one text
module _ (text_of : PlainFile → List ℕ) (Related : PlainFile → PlainFile → Type 0) where
  -- one more file
  pub numbers_more : TellsRelated text_of Related → (old new : TextIndex) (found longer : List (Vec ℕ Global × ℕ)) (path : List ℕ) (copy : Vec ℕ Global)
      (file : PlainFile) (number : ℕ) → copy.items ≡ path → IsPlainFile file → AddsText old new (text_of file) number → longer ≡ found ++ (copy, number) ∷ []
      → (paths : List (List ℕ)) (files : List PlainFile) → KeepsNumbers text_of Related paths files old (found_paths found)
      → KeepsNumbers text_of Related (paths ++ path ∷ []) (files ++ file ∷ []) new (found_paths longer)
  numbers_more tells old new found longer path copy file number is facts added put paths files h =
      let more_paths : found_paths longer ≡ found_paths found ++ (path, number) ∷ [] = ap found_paths put
      ∙ map-append (λ (f : Vec ℕ Global × ℕ). (f.0.items, f.1)) found ((copy, number) ∷ []) ∙ ap (λ (p : List ℕ). found_paths found ++ (p, number) ∷ []) is in
      rw more_paths (record {
        is_index = index_of_more text_of old new number files file facts h.is_index added;
        finds = record {
          of_paths = map-append (λ (f : List ℕ × ℕ). f.0) (found_paths found) ((path, number) ∷ [])
              ∙ ap (λ (ps : List (List ℕ)). ps ++ path ∷ []) h.finds.of_paths;
          numbers =
              zip_push (λ f g. IsFirstNumber Related files g f.1) (λ f g. IsFirstNumber Related (files ++ file ∷ []) g f.1)
              (found_paths found) files (path, number) file (λ f g is. first_number_stays Related files file g f.1 is) h.finds.numbers
              (number_of_more text_of old new number files file facts h.is_index added Related tells);
        };
      })

  -- ---- one more judgement

  -- it has these files and paths
  module _ (files_if : Judgement → List PlainFile) (paths_if : List ℕ → Judgement → List (List ℕ)) (js : List (List ℕ × Judgement)) (path : List ℕ)
      (j : Judgement) (index : TextIndex) (found : List (List ℕ × ℕ)) where
    abbrev files_of : List (List ℕ × Judgement) → List PlainFile
    files_of judgements = flat_map (λ x. files_if x.1) judgements

    abbrev paths_of : List (List ℕ × Judgement) → List (List ℕ)
    paths_of judgements = flat_map (λ x. paths_if x.0 x.1) judgements

    abbrev Keeps : List (List ℕ × Judgement) → Type 0
    Keeps judgements = KeepsNumbers text_of Related (paths_of judgements) (files_of judgements) index found

    pub judgement_more : KeepsNumbers text_of Related (paths_of js ++ (paths_if path j ++ [])) (files_of js ++ (files_if j ++ [])) index found
        → Keeps (js ++ (path, j) ∷ [])
    judgement_more h =
        rw (
          flat_map-append (λ (x : List ℕ × Judgement). paths_if x.0 x.1) js ((path, j) ∷ []),
          flat_map-append (λ (x : List ℕ × Judgement). files_if x.1) js ((path, j) ∷ []),
        ) h

    -- it has none
    pub judgement_skipped : files_if j ≡ [] → paths_if path j ≡ [] → Keeps js → Keeps (js ++ (path, j) ∷ [])
    judgement_skipped no_file no_path h = judgement_more (rw (no_path, no_file, append-nil (paths_of js), append-nil (files_of js)) h)

-- ---- what was found

zip_within : (Related : PlainFile → PlainFile → Type 0) (all : List PlainFile) (found : List (Vec ℕ Global × ℕ)) (files : List PlainFile)
    → AllZip (λ f file. IsFirstNumber Related all file f.1) (found_paths found) files → AllByRecursion (λ f. f.1 < length all) found
zip_within Related all [] files h = tt
zip_within Related all (f ∷ found) [] h = absurd h
zip_within Related all (f ∷ found) (file ∷ files) h = (slice_get_within all f.1 h.0.file h.0.there, zip_within Related all found files h.1)

-- each number is that of a file that was judged
pub numbers_within : (Related : PlainFile → PlainFile → Type 0) (files : List PlainFile) (found : List (Vec ℕ Global × ℕ)) → AllZip (λ f file. IsFirstNumber
    Related files file f.1) (found_paths found) files
    → All (λ f. f.1 < length found) found
numbers_within Related files found zipped =
    All-from_recursion (λ f. f.1 < length found) found
    (subst (λ (n : ℕ). AllByRecursion (λ f. f.1 < n) found)
    (AllZip-long (λ f file. IsFirstNumber Related files file f.1) (found_paths found) files zipped
    ∙ length-map found (λ (f : Vec ℕ Global × ℕ). (f.0.items, f.1))) (zip_within Related files found files zipped))
