-- The rows of `cats publish`. The first file that is the same auction has the same canonical text.
use Rattle.cats_cmd.proofs.Common.{◌≡◌, ℕ, List, [], ◌∷◌, Option, Some, None, false, true, refl, ap, ◌∙◌, Bool, Judgement, PlainFile}
use Rattle.cats_cmd.proofs.Common.{canonical_text}
use Rattle.cats_cmd.proofs.Common.{get_or, judged_files, judged_paths, ◌+◌, ◌<◌, suc, zero, length, cond, not, arith, lt-ltb}
use Rattle.canon.specs.FirstNumbers.{first_number}
use Rattle.cats_cmd.specs.Publishing.{HasSameText, same_as}
use Rattle.std.specs.Prelude.{bytes_eq, slice_get, option_and_then}
use Rattle.std.proofs.lemmas.Bool.{false≢true}
use Rattle.std.proofs.lemmas.List.Quantifiers.{position-Some}
use Rattle.std.specs.List.{position_or_len}
use Rattle.std.proofs.lemmas.Option.{slice_get-get_or}
use Rattle.std.proofs.lemmas.Slice.Eq.{bytes_eq-Decides}

first_here : (b : Bool) (n m : ℕ) → b ≡ true → cond (not b) (1 + n) 0 < suc m
first_here true n m is = omega arith
first_here false n m is = absurd (false≢true is)

first_later : (b : Bool) (n m : ℕ) → n < m → cond (not b) (1 + n) 0 < suc m
first_later true n m l = omega arith
first_later false n m l = omega (arith, l)

-- one that passes is there, so a first one is
passes_first : {X : Type 0} (p : X → Bool) (xs : List X) (k : ℕ) (x : X) → slice_get xs k ≡ Some x → p x ≡ true → position_or_len p xs < length xs
passes_first p [] k x there passed = cc
passes_first {X} p (y ∷ xs) zero x there passed = first_here (p y) (position_or_len p xs) (length xs) (ap p (same there) ∙ passed)
  where
    same : Some y ≡ Some x → y ≡ x
    same is = cc
passes_first p (y ∷ xs) (suc k) x there passed = first_later (p y) (position_or_len p xs) (length xs) (passes_first p xs k x there passed)

module _ (before : List (List ℕ × Judgement)) (file : PlainFile) where
  abbrev alike : PlainFile → Bool
  alike other = bytes_eq (canonical_text other) (canonical_text file)

  pub has_same_text : (path : List ℕ) → same_as before file ≡ Some path → HasSameText before file path
  has_same_text path is = go (first_number (judged_files before) file) refl is
    where
      go : (found : Option ℕ) → first_number (judged_files before) file ≡ found → option_and_then (slice_get (judged_paths before)) found ≡ Some path
          → HasSameText before file path
      go None none is = cc
      go (Some number) found is =
          let at = position-Some alike (judged_files before) number file found in
          let other = get_or (judged_files before) number file in
          record {
            number = number;
            other = other;
            there = is;
            is = slice_get-get_or (judged_files before) number file at.0;
            same = (bytes_eq-Decides (canonical_text other) (canonical_text file)).0 at.1;
          }

  -- an earlier file has the same text, so there is a first one
  pub is_found : (number : ℕ) (other : PlainFile) → slice_get (judged_files before) number ≡ Some other → canonical_text other ≡ canonical_text file
      → first_number (judged_files before) file ≡ None → ⊥
  is_found number other there same none =
      let passes : alike other ≡ true = (bytes_eq-Decides (canonical_text other) (canonical_text file)).1 same in
      let less = passes_first alike (judged_files before) number other there passes in
      some_none (rw (lt-ltb (position_or_len alike (judged_files before)) (length (judged_files before)) less) at none)
    where
      some_none : {n : ℕ} → Some n ≡ None → ⊥
      some_none is = cc
