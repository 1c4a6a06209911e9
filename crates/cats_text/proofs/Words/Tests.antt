-- What is kept of a word answers every test that the grammar makes of the word.
use Rattle.cats_text.proofs.Common.{rules, ◌≡◌, ℕ, zero, suc, ◌<◌, ◌≤◌, min, Bool, true, false, not, ◌&&◌, eqb, List, [], ◌∷◌, length, take, refl, sym, ap}
use Rattle.cats_text.proofs.Common.{◌∙◌, subst, arith, append-nil, and_parts, eqb-true, eqb-false, eq-eqb, ne_eqb, both_ways, bytes_eq, is_digit, digits_alone}
use Rattle.cats_text.proofs.Common.{is_number, is_price, is_end, keyword_text, is_same_keyword, Decimal, Keyword, Number, End, Other, common_steps}
use Rattle.cats_text.specs.declared.word.Keyword.{Keyword as Key}
use Rattle.cats_text.specs.declared.word.Keyword.TheVariants.{Goods, Bids, Dummy}
use Rattle.cats_text.specs.declared.word.Word.{Word}
use Rattle.cats_text.specs.declared.word.Word.TheVariants.{Decimal as Fraction}
use Rattle.cats_text.proofs.Words.Kept.{Summarises, IsOther, digit_not, first_of_take, digits-not, whole-digits, point-digits, whole-point, places-point}
use Rattle.cats_text.proofs.Words.Kept.{point-point}

abbrev pub is_number_by : Word → Bool
is_number_by (Number v) = true
is_number_by _ = false

abbrev pub is_price_by : Word → Bool
is_price_by (Number v) = true
is_price_by (Fraction d) = not (eqb d.decimals 0)
is_price_by _ = false

abbrev pub ends_by : Word → Bool
ends_by End = true
ends_by _ = false

abbrev pub is_keyword_by : Key → Word → Bool
is_keyword_by k (Keyword j n) = is_same_keyword j k && eqb n (length (keyword_text k))
is_keyword_by k _ = false

-- the tests of a word, answered by what is kept of it
pub record IsTested (w : List ℕ) (s : Word) : Type 0 where
  pub number : is_number w ≡ is_number_by s
  pub price : is_price w ≡ is_price_by s
  pub ended : is_end w ≡ ends_by s
  pub keyword : (k : Key) → bytes_eq w (keyword_text k) ≡ is_keyword_by k s

first_not_digit : (a : ℕ) (w : List ℕ) → is_digit a ≡ false → (is_number (a ∷ w) ≡ false) × (is_price (a ∷ w) ≡ false)
first_not_digit a w h = grind (arith, common_steps)

-- the prefix of a keyword is the keyword where it is all of it
same_prefix : (s : List ℕ) (n : ℕ) → n ≤ length s → bytes_eq (take n s) s ≡ eqb n (length s)
same_prefix [] zero l = refl
same_prefix [] (suc n) l = absurd (let no : suc n ≤ 0 = l in omega arith)
same_prefix (x ∷ xs) zero l = sym (ne_eqb 0 (length (x ∷ xs)) (λ e. absurd (omega arith)))
same_prefix (x ∷ xs) (suc n) l = grind (arith, common_steps, eq-eqb, eqb-false, eqb-true, ne_eqb, (same_prefix xs n (omega arith)))

tested_keyword : (j : Key) (a : ℕ) (w : List ℕ) (n : ℕ) → Summarises (a ∷ w) (Keyword j n) → IsTested (a ∷ w) (Keyword j n)
tested_keyword Goods a w n h = let first : a ≡ 103 = first_of_take a w 103 _ n h.0 in search (rules, first_not_digit, same_prefix)
tested_keyword Bids a w n h = let first : a ≡ 98 = first_of_take a w 98 _ n h.0 in search (rules, first_not_digit, same_prefix)
tested_keyword Dummy a w n h = let first : a ≡ 100 = first_of_take a w 100 _ n h.0 in search (rules, first_not_digit, same_prefix)

-- a word that begins with a digit is neither `#` nor a keyword
digit_first : (a : ℕ) (w : List ℕ) → is_digit a ≡ true → (is_end (a ∷ w) ≡ false) × ((k : Key) → bytes_eq (a ∷ w) (keyword_text k) ≡ false)
digit_first a w h = grind (arith, common_steps, digit_not)

tested_number : (a : ℕ) (w : List ℕ) (v : ℕ) → Summarises (a ∷ w) (Number v) → IsTested (a ∷ w) (Number v)
tested_number a w v h = grind (arith, common_steps, and_parts, digit_first, point-digits, whole-digits)

price_behind : (behind : List ℕ) (count : ℕ) → digits_alone behind ≡ true → count ≡ min 6 (length behind) → is_number behind ≡ not (eqb count 0)
price_behind [] count h e = rw e refl
price_behind (b ∷ bs) count h e = h ∙ sym (ap not (ne_eqb count 0 (λ z. absurd (let pos : 0 < length (b ∷ bs) = omega arith in omega arith))))

tested_fraction : (a : ℕ) (w : List ℕ) (d : Decimal) → Summarises (a ∷ w) (Fraction d) → IsTested (a ∷ w) (Fraction d)
tested_fraction a w d f = search (rules, both_ways, and_parts, digit_first, whole-point, point-point, places-point, price_behind, digits-not)

tested_other : (w : List ℕ) → Summarises w Other → IsTested w Other
tested_other w h = let o = subst IsOther (append-nil w) (h []) in record { number = o.number; price = o.price; ended = o.ended; keyword = o.keyword }

pub tested : (a : ℕ) (w : List ℕ) (s : Word) → Summarises (a ∷ w) s → IsTested (a ∷ w) s
tested a w (Keyword k n) h = tested_keyword k a w n h
tested a w (Number v) h = tested_number a w v h
tested a w (Fraction d) h = tested_fraction a w d h
tested a w End h = grind (arith, common_steps)
tested a w Other h = tested_other (a ∷ w) h
