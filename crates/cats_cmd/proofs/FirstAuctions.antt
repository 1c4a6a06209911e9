-- The first file that is the same auction, by the number that an index answers for one more file.
use Rattle.cats_cmd.proofs.Common.{◌≡◌, ◌≤◌, ◌<◌, ℕ, Bool, true, false, List, [], ◌∷◌, ◌++◌, length, get_or, Some, None, refl, sym, ap, ◌∙◌}
use Rattle.cats_cmd.proofs.Common.{arith}
use Rattle.cats_cmd.proofs.Common.{cond, false_from_ne_true, slice_get_within, length-append, PlainFile, IsPlainFile, IsFirstNumber}
use Rattle.cats_cmd.proofs.Common.{canonical_text, AddsText, TextIndex, number_of_more}
use Rattle.canon.proofs.TwoFiles.Indexing.{pushed_before, pushed_earlier}
use Rattle.canon.specs.FirstNumbers.{IsIndexOf, first_number}
use Rattle.std.specs.Prelude.{bytes_eq, is_none, nat_lt, option_and_then, slice_get}
use Rattle.std.specs.List.{position_or_len}
use Rattle.std.proofs.lemmas.Bool.{ltb-true, ltb-false}
use Rattle.std.proofs.lemmas.List.Sums.{position_or_len_is}
use Rattle.std.proofs.lemmas.Option.{get_or_from_slice_get, slice_get-get_or, slice_get_past}
use Rattle.std.proofs.lemmas.Slice.Eq.{bytes_eq-Decides}

-- files that have one canonical text
abbrev pub HaveOneText : PlainFile → PlainFile → Type 0
HaveOneText one other = canonical_text one ≡ canonical_text other

module _ (files : List PlainFile) (file : PlainFile) (number : ℕ) (h : IsFirstNumber HaveOneText (files ++ file ∷ []) file number) where
  abbrev alike : PlainFile → Bool
  alike other = bytes_eq (canonical_text other) (canonical_text file)

  within : number ≤ length files
  within = omega (arith, slice_get_within (files ++ file ∷ []) number h.file h.there, length-append files (file ∷ []))

  before : (k : ℕ) → k < number → alike (get_or files k file) ≡ false
  before k l = false_from_ne_true (alike (get_or files k file)) (λ yes. h.first k (get_or files k file) l
      (pushed_before files file (get_or files k file) k (slice_get-get_or files k file (omega (arith, l, within))))
      ((bytes_eq-Decides (canonical_text (get_or files k file)) (canonical_text file)).0 yes))

  here : number < length files → alike (get_or files number file) ≡ true
  here l = (bytes_eq-Decides (canonical_text (get_or files number file)) (canonical_text file)).1
      (ap canonical_text (get_or_from_slice_get files number h.file file (pushed_earlier files file h.file number l h.there)) ∙ h.related)

  place : position_or_len alike files ≡ number
  place = position_or_len_is alike files number file within before here

  first_is : first_number files file ≡ cond (nat_lt number (length files)) (Some number) None
  first_is = rw place refl

  module _ (paths : List (List ℕ)) (long : length paths ≡ length files) where
    -- its path, if it is one of the files before
    pub first_path : option_and_then (slice_get paths) (first_number files file) ≡ slice_get paths number
    first_path = go (nat_lt number (length files)) refl
      where
        go : (b : Bool) → nat_lt number (length files) ≡ b → option_and_then (slice_get paths) (first_number files file) ≡ slice_get paths number
        go true is = rw (first_is, is) refl
        go false is = rw (first_is, is) (sym (slice_get_past paths number (rw long (ltb-false number (length files) is))))

    pub first_none : is_none (first_number files file) ≡ is_none (slice_get paths number)
    first_none = go (nat_lt number (length files)) refl
      where
        go : (b : Bool) → nat_lt number (length files) ≡ b → is_none (first_number files file) ≡ is_none (slice_get paths number)
        go true is = rw (first_is, is, slice_get-get_or paths number [] (rw long (ltb-true number (length files) is))) refl
        go false is = rw (first_is, is, slice_get_past paths number (rw long (ltb-false number (length files) is))) refl

-- the number that is answered
pub number_is_first : (old new : TextIndex) (number : ℕ) (files : List PlainFile) (file : PlainFile) → IsPlainFile file
    → IsIndexOf canonical_text old files → AddsText old new (canonical_text file) number → IsFirstNumber HaveOneText (files ++ file ∷ []) file number
number_is_first old new number files file facts index added =
    number_of_more canonical_text old new number files file facts index added HaveOneText (λ f g _ _. ((λ same. same), (λ same. same)))
