-- Tests one after another: no fault is that each of them is false. And header lines.
use Rattle.cats_text.proofs.Common.{rules, ◌≡◌, ℕ, ◌≤◌, Bool, true, false, cond, ◌||◌, List, [], ◌∷◌, Option, Some, None, refl, ap, ◌∙◌, arith, both_ways}
use Rattle.cats_text.proofs.Common.{ltb-false, le-ltb, not-false, not_from_true, bytes_eq-Decides, option_or, bytes_eq, Word, is_number, number_of, when}
use Rattle.cats_text.proofs.Common.{header_word, header_end, header_value, word_fault, words_fault, Kind, common_steps, option_map}

-- ---- tests

pub when_none : (t : Bool) (k : Kind) (r : Option Kind) → when t k r ≡ None → (t ≡ false) × (r ≡ None)
when_none true k r h = absurd (cc)
when_none false k r h = (refl, h)

pub none_when : (t : Bool) (k : Kind) (r : Option Kind) → t ≡ false → r ≡ None → when t k r ≡ None
none_when true k r e h = absurd (both_ways true e refl)
none_when false k r e h = h

pub or_none : {T : Type 0} (a b : Option T) → option_or a b ≡ None → (a ≡ None) × (b ≡ None)
or_none None b h = (refl, h)
or_none (Some x) b h = absurd (cc)

pub none_or : {T : Type 0} (a b : Option T) → a ≡ None → b ≡ None → option_or a b ≡ None
none_or None b e h = h
none_or (Some x) b e h = e

pub map_none : {T U : Type 0} (f : T → U) (o : Option T) → option_map f o ≡ None → o ≡ None
map_none f None h = refl
map_none f (Some x) h = absurd (cc)

pub cond_none : {T : Type 0} (b : Bool) (x : T) → cond b (Some x) None ≡ None → b ≡ false
cond_none true x h = absurd (cc)
cond_none false x h = refl

-- where the input is whole, each line has an end
pub or_whole : {T : Type 0} (b : Bool) (x y : T) → cond (b || true) x y ≡ x
or_whole true x y = refl
or_whole false x y = refl

pub equal_words : (v w : Word) → bytes_eq v w ≡ true → v ≡ w
equal_words v w h = (bytes_eq-Decides v w).0 h

pub same_word : (w : Word) → bytes_eq w w ≡ true
same_word w = (bytes_eq-Decides w w).1 refl

-- ---- header lines

-- the words of a header line: its keyword, and a number up to a limit
pub record IsHeader (keyword : Word) (limit : ℕ) (words : List Word) : Type 0 where
  pub number : Word
  pub words_are : words ≡ keyword ∷ number ∷ []
  pub spelled : is_number number ≡ true
  pub within : number_of number ≤ limit

module _ (keyword : Word) (limit : ℕ) (lines : List (List Word))
    (is_header : (before : List Word) (w : Word) → word_fault lines before w ≡ header_word keyword limit before w) where
  pub header_from : (words : List Word) → words_fault lines [] words ≡ None → header_end words ≡ None → IsHeader keyword limit words
  header_from [] f e = absurd (cc)
  header_from (k ∷ []) f e = absurd (cc)
  header_from (k ∷ w ∷ []) f e = search (rules, or_none, when_none, equal_words, not-false, ltb-false)
  header_from (k ∷ w ∷ x ∷ xs) f e = grind (arith, common_steps, or_none)

  header_words_none : (number : Word) → is_number number ≡ true → number_of number ≤ limit → words_fault lines [] (keyword ∷ number ∷ []) ≡ None
  header_words_none number spelled small = grind (arith, common_steps, le-ltb, none_or, none_when, not_from_true, number, same_word, spelled)

  pub header_none : (words : List Word) → IsHeader keyword limit words → (words_fault lines [] words ≡ None) × (header_end words ≡ None)
  header_none words p = search (rules, header_words_none)

pub header_number : (keyword : Word) (limit : ℕ) (words : List Word) → (p : IsHeader keyword limit words) → header_value words ≡ number_of p.number
header_number keyword limit words p = ap header_value p.words_are ∙ ap (λ b. cond b (number_of p.number) 0) p.spelled
