-- What the reader keeps of a word says all that the grammar needs of the word. The idea: `Summarises w s` says it of each kind of
-- summary s, and one more byte keeps it.
use Rattle.cats_text.proofs.Common.{rules, ◌≡◌, ◌≢◌, ℕ, zero, suc, ◌+◌, ◌-◌, ◌*◌, ◌^◌, ◌<◌, ◌≤◌, min, true, false, not, ◌&&◌, ◌||◌, cond, eqb, ltb, ◌⊎◌, List}
use Rattle.cats_text.proofs.Common.{[], ap, ◌∷◌, ◌++◌, length, get_or, take, fold, refl, sym, ◌∙◌, subst, arith, append_assoc, length-append, append-nil}
use Rattle.cats_text.proofs.Common.{and_parts, and_from, eqb-true, eqb-false, eq-eqb, ne_eqb, ltb-true, ltb-false, lt-ltb, le-ltb, or_right, both_ways}
use Rattle.cats_text.proofs.Common.{fold-append, drop_of_length-le, drop-append-le, take-suc, list_any-append, list_any, bytes_eq, is_digit, digits_alone}
use Rattle.cats_text.proofs.Common.{is_number, number_of, is_price, whole_part, has_point, places, has_place_from, is_end, keyword_text, place_value_of}
use Rattle.cats_text.proofs.Common.{word_from, word_with, decimal_with, summary, Decimal, Keyword, Number, End, Other, HELD, common_steps}
use Rattle.cats_text.specs.declared.word.Keyword.{Keyword as Key}
use Rattle.cats_text.specs.declared.word.Keyword.TheVariants.{Goods, Bids, Dummy}
use Rattle.cats_text.specs.declared.word.Word.{Word}
use Rattle.cats_text.specs.declared.word.Word.TheVariants.{Decimal as Fraction}
use Rattle.cats_text.proofs.Words.Places.{places_from, places-push, place_value_late, digit_bounds, places_below_one}

pub summary-push : (a : ℕ) (w : List ℕ) (b : ℕ) → summary ((a ∷ w) ++ b ∷ []) ≡ word_with (summary (a ∷ w)) b
summary-push a w b = fold-append word_with (word_from a) w (b ∷ [])

-- nothing that the grammar takes
pub record IsOther (w : List ℕ) : Type 0 where
  pub number : is_number w ≡ false
  pub price : is_price w ≡ false
  pub ended : is_end w ≡ false
  pub keyword : (k : Key) → bytes_eq w (keyword_text k) ≡ false

-- v is the number n, or both are above every limit
abbrev pub Holds : ℕ → ℕ → Type 0
Holds v n = (v ≡ n) ⊎ ((HELD ≤ v) × (HELD ≤ n))

pub record IsFraction (w : List ℕ) (d : Decimal) : Type 0 where
  pub whole : List ℕ
  pub behind : List ℕ
  pub is : w ≡ whole ++ 46 ∷ behind
  pub number : is_number whole ≡ true
  pub digits : digits_alone behind ≡ true
  pub value : Holds d.whole (number_of whole)
  pub count : d.decimals ≡ min 6 (length behind)
  pub millionths : d.millionths ≡ places_from 0 behind
  pub fine : d.fine ≡ has_place_from 6 behind

abbrev pub Summarises : List ℕ → Word → Type 0
Summarises w (Keyword k n) = (w ≡ take n (keyword_text k)) × (0 < n) × (n ≤ length (keyword_text k))
Summarises w (Number v) = (is_number w ≡ true) × Holds v (number_of w)
Summarises w (Fraction d) = IsFraction w d
Summarises w End = w ≡ 35 ∷ []
Summarises w Other = (t : List ℕ) → IsOther (w ++ t)

-- ---- words that nothing can mend

not_digit_first : (a : ℕ) (w : List ℕ) → is_digit a ≡ false → is_number (a ∷ w) ≡ false
not_digit_first a w h = rw h refl

not_price_first : (a : ℕ) (w : List ℕ) → is_digit a ≡ false → is_price (a ∷ w) ≡ false
not_price_first a w h = grind (arith, common_steps)

-- the first byte begins neither a number, nor `#`, nor a keyword
other_first : (a : ℕ) (w : List ℕ) → is_digit a ≡ false → a ≢ 35 → a ≢ 103 → a ≢ 98 → a ≢ 100 → IsOther (a ∷ w)
other_first a w digit hash g b d = grind (arith, common_steps, ne_eqb, not_digit_first, not_price_first)

-- the first byte is a digit, so that it is neither `#` nor a keyword
pub digit_not : (a c : ℕ) (w t : List ℕ) → is_digit a ≡ true → is_digit c ≡ false → bytes_eq (a ∷ w) (c ∷ t) ≡ false
digit_not a c w t h k = grind (arith, common_steps, both_ways, eqb-true)

digit_is_other : (a : ℕ) (w : List ℕ) → is_digit a ≡ true → is_number (a ∷ w) ≡ false → is_price (a ∷ w) ≡ false → IsOther (a ∷ w)
digit_is_other a w h n p = grind (arith, common_steps, digit_not)

-- ---- parts of a word

digit_no_point : (b : ℕ) → is_digit b ≡ true → eqb b 46 ≡ false
digit_no_point b h = ne_eqb b 46 (λ e. let low : 48 ≤ b = (digit_bounds b h).0 in absurd (omega arith))

digits_head : (a : ℕ) (w : List ℕ) → digits_alone (a ∷ w) ≡ true → (is_digit a ≡ true) × (digits_alone w ≡ true)
digits_head a w h = and_parts (is_digit a) (digits_alone w) h

pub whole-digits : (w : List ℕ) → digits_alone w ≡ true → whole_part w ≡ w
whole-digits [] h = refl
whole-digits (a ∷ w) h = let p = digits_head a w h in rw (digit_no_point a p.0) (ap (λ ds. a ∷ ds) (whole-digits w p.1))

pub point-digits : (w : List ℕ) → digits_alone w ≡ true → has_point w ≡ false
point-digits [] h = refl
point-digits (a ∷ w) h = let p = digits_head a w h in rw (digit_no_point a p.0) (point-digits w p.1)

pub whole-point : (w t : List ℕ) → digits_alone w ≡ true → whole_part (w ++ 46 ∷ t) ≡ w
whole-point [] t h = refl
whole-point (a ∷ w) t h = let p = digits_head a w h in rw (digit_no_point a p.0) (ap (λ ds. a ∷ ds) (whole-point w t p.1))

pub places-point : (w t : List ℕ) → digits_alone w ≡ true → places (w ++ 46 ∷ t) ≡ t
places-point [] t h = refl
places-point (a ∷ w) t h = let p = digits_head a w h in rw (digit_no_point a p.0) (places-point w t p.1)

pub point-point : (w t : List ℕ) → has_point (w ++ 46 ∷ t) ≡ true
point-point [] t = refl
point-point (a ∷ w) t = or_right (eqb a 46) (has_point (w ++ 46 ∷ t)) (point-point w t)

whole-other : (w t : List ℕ) (b : ℕ) → digits_alone w ≡ true → b ≢ 46 → whole_part (w ++ b ∷ t) ≡ w ++ b ∷ whole_part t
whole-other [] t b h ne = rw (ne_eqb b 46 ne) refl
whole-other (a ∷ w) t b h ne = let p = digits_head a w h in rw (digit_no_point a p.0) (ap (λ ds. a ∷ ds) (whole-other w t b p.1 ne))

pub digits-not : (w t : List ℕ) (b : ℕ) → is_digit b ≡ false → digits_alone (w ++ b ∷ t) ≡ false
digits-not [] t b h = rw h refl
digits-not (a ∷ w) t b h = grind (arith, common_steps, (digits-not w t b h))

digits-more : (w : List ℕ) (b : ℕ) → digits_alone w ≡ true → is_digit b ≡ true → digits_alone (w ++ b ∷ []) ≡ true
digits-more [] b h k = rw k refl
digits-more (a ∷ w) b h k = let p = digits_head a w h in and_from (is_digit a) (digits_alone (w ++ b ∷ [])) p.0 (digits-more w b p.1 k)

number_of-push : (w : List ℕ) (b : ℕ) → number_of (w ++ b ∷ []) ≡ 10 * number_of w + (b - 48)
number_of-push w b = fold-append (λ n c. 10 * n + (c - 48)) 0 w (b ∷ [])

-- a number held, with one more digit
holds_more : (v n d : ℕ) → Holds v n → Holds (cond (ltb v HELD) (v * 10 + d) v) (10 * n + d)
holds_more v n d h = grind (arith, common_steps, ltb-false, ltb-true)

-- ---- the first byte

pub summarises_first : (a : ℕ) → Summarises (a ∷ []) (word_from a)
summarises_first a = grind (arith, common_steps, eqb-false, eqb-true, other_first)

-- ---- one more byte

-- behind digits, a byte that is neither a digit nor a point
number_other : (a : ℕ) (w : List ℕ) (b : ℕ) (t : List ℕ) → digits_alone (a ∷ w) ≡ true → is_digit b ≡ false → b ≢ 46 → IsOther ((a ∷ w) ++ b ∷ t)
number_other a w b t h digit point = search (rules, digits_head, whole-other, digits-not, digit_is_other)

summarises_number : (a : ℕ) (w : List ℕ) (b v : ℕ) → Summarises (a ∷ w) (Number v) → Summarises ((a ∷ w) ++ b ∷ []) (word_with (Number v) b)
summarises_number a w b v h =
    elim (is_digit b) as (λ t. is_digit b ≡ t
    → Summarises ((a ∷ w) ++ b ∷ [])
    (cond t (Number (cond (ltb v HELD) (v * 10 + (b - 48)) v)) (cond (eqb b 46) (Fraction (record { whole = v; millionths = 0; decimals = 0; fine = false }))
    Other))) [
      | true ↦ λ (digit : is_digit b ≡ true). (digits-more (a ∷ w) b h.0 digit, rw (number_of-push (a ∷ w) b) (holds_more v (number_of (a ∷ w)) (b - 48) h.1))
      | false ↦ λ (digit : is_digit b ≡ false). elim (eqb b 46) as (λ t. eqb b 46 ≡ t
          → Summarises ((a ∷ w) ++ b ∷ []) (cond t (Fraction (record { whole = v; millionths = 0; decimals = 0; fine = false })) Other)) [
            | true ↦ λ (point : eqb b 46 ≡ true). record {
              whole = a ∷ w;
              behind = [];
              is = ap (λ n. (a ∷ w) ++ n ∷ []) (eqb-true b 46 point);
              number = h.0;
              digits = refl;
              value = h.1;
              count = refl;
              millionths = refl;
              fine = refl;
            }
            | false ↦ λ (point : eqb b 46 ≡ false). λ t. subst IsOther (sym (append_assoc (a ∷ w) (b ∷ []) t))
                (number_other a w b t h.0 digit (eqb-false b 46 point))
          ] refl
    ] refl

is_number-not : (w : List ℕ) → digits_alone w ≡ false → is_number w ≡ false
is_number-not [] h = refl
is_number-not (a ∷ w) h = h

-- behind digits, a point and digits, a byte that is no digit
fraction_other : (a : ℕ) (w behind : List ℕ) (b : ℕ) (t : List ℕ) → digits_alone (a ∷ w) ≡ true → is_digit b ≡ false
    → IsOther ((a ∷ w) ++ 46 ∷ (behind ++ b ∷ t))
fraction_other a w behind b t h digit = grind (arith, common_steps, digit_is_other, digits-not, digits_head, is_number-not, places-point, point-point)

has_place_early : (ds : List ℕ) → length ds ≤ 6 → has_place_from 6 ds ≡ false
has_place_early ds l = ap (λ (r : List ℕ). list_any (λ c. not (eqb c 48)) r) (drop_of_length-le ds l)

-- a place more, of the first six
fraction_early : (w : List ℕ) (d : Decimal) (b : ℕ) → IsFraction w d → is_digit b ≡ true → d.decimals < 6
    → IsFraction (w ++ b ∷ []) (record d { millionths = min (d.millionths + (b - 48) * place_value_of d.decimals) (2 ^ 64 - 1); decimals = d.decimals + 1 })
fraction_early w d b f digit early =
    grind (arith, common_steps, append_assoc, digits-more, has_place_early, length-append, places-push, places_below_one, places_from)

zero_digit : (b : ℕ) → is_digit b ≡ true → eqb (b - 48) 0 ≡ eqb b 48
zero_digit b digit = grind (arith, common_steps, digit_bounds, eq-eqb, eqb-false, eqb-true, ne_eqb)

one_more : (ds : List ℕ) (b : ℕ) → 6 ≤ length ds → (has_place_from 6 ds || not (eqb b 48)) ≡ has_place_from 6 (ds ++ b ∷ [])
one_more ds b l = grind (arith, common_steps, drop-append-le, list_any-append)

-- a place more, behind the first six
fraction_late : (w : List ℕ) (d : Decimal) (b : ℕ) → IsFraction w d → is_digit b ≡ true → 6 ≤ d.decimals
    → IsFraction (w ++ b ∷ []) (record d { fine = d.fine || not (eqb (b - 48) 0) })
fraction_late w d b f digit late =
    grind (arith, common_steps, append_assoc, digits-more, length-append, one_more, place_value_late, places-push, places_from, zero_digit)

summarises_fraction : (a : ℕ) (w : List ℕ) (b : ℕ) (d : Decimal) → Summarises (a ∷ w) (Fraction d) → Summarises ((a ∷ w) ++ b ∷ []) (word_with (Fraction d) b)
summarises_fraction a w b d f = elim (is_digit b) as (λ t. is_digit b ≡ t
    → Summarises ((a ∷ w) ++ b ∷ []) (cond t (Fraction (decimal_with d (b - 48))) Other)) [
      | true ↦ λ (digit : is_digit b ≡ true). elim (ltb d.decimals 6) as (λ t. ltb d.decimals 6 ≡ t → IsFraction ((a ∷ w) ++ b ∷ [])
          (cond t (record d { millionths = min (d.millionths + (b - 48) * place_value_of d.decimals) (2 ^ 64 - 1); decimals = d.decimals + 1 })
          (record d { fine = d.fine || not (eqb (b - 48) 0) }))) [
            | true ↦ λ (e : ltb d.decimals 6 ≡ true). fraction_early (a ∷ w) d b f digit (ltb-true d.decimals 6 e)
            | false ↦ λ (e : ltb d.decimals 6 ≡ false). fraction_late (a ∷ w) d b f digit (ltb-false d.decimals 6 e)
          ] refl
      | false ↦ λ (digit : is_digit b ≡ false). λ t. other f.whole f.behind t f.number digit
          (append_assoc (a ∷ w) (b ∷ []) t ∙ ap (λ ds. ds ++ b ∷ t) f.is ∙ append_assoc f.whole (46 ∷ f.behind) (b ∷ t))
    ] refl
  where
    other : (whole behind t : List ℕ) → is_number whole ≡ true → is_digit b ≡ false → ((a ∷ w) ++ b ∷ []) ++ t ≡ whole ++ 46 ∷ (behind ++ b ∷ t)
        → IsOther (((a ∷ w) ++ b ∷ []) ++ t)
    other [] behind t n digit e = absurd (both_ways false refl n)
    other (c ∷ cs) behind t n digit e = subst IsOther (sym e) (fraction_other c cs behind b t n digit)

-- behind the prefix of a keyword, another byte than its next
bytes_mismatch : (n : ℕ) (s : List ℕ) (b : ℕ) (t : List ℕ) → n ≤ length s → (ltb n (length s) && eqb (get_or s n 0) b) ≡ false
    → bytes_eq (take n s ++ b ∷ t) s ≡ false
bytes_mismatch zero [] b t l h = refl
bytes_mismatch zero (x ∷ xs) b t l h = grind (arith, common_steps, both_ways, eq-eqb, eqb-true, lt-ltb)
bytes_mismatch (suc n) [] b t l h = absurd (let no : suc n ≤ 0 = l in omega arith)
bytes_mismatch (suc n) (x ∷ xs) b t l h = grind (arith, common_steps, eq-eqb, le-ltb, lt-ltb, ltb-false, ltb-true, (bytes_mismatch n))

-- the first byte of a keyword's prefix
pub first_of_take : (a : ℕ) (w : List ℕ) (x : ℕ) (xs : List ℕ) (n : ℕ) → a ∷ w ≡ take n (x ∷ xs) → a ≡ x
first_of_take a w x xs zero e = grind (arith, common_steps)
first_of_take a w x xs (suc n) e = cc

keyword_other : (k : Key) (a : ℕ) (w : List ℕ) (n b : ℕ) (t : List ℕ) → a ∷ w ≡ take n (keyword_text k) → n ≤ length (keyword_text k)
    → (ltb n (length (keyword_text k)) && eqb (get_or (keyword_text k) n 0) b) ≡ false → IsOther ((a ∷ w) ++ b ∷ t)
keyword_other Goods a w n b t e l h = grind (arith, common_steps, bytes_mismatch, first_of_take, not_price_first)
keyword_other Bids a w n b t e l h = grind (arith, common_steps, bytes_mismatch, first_of_take, not_price_first)
keyword_other Dummy a w n b t e l h = grind (arith, common_steps, bytes_mismatch, first_of_take, not_price_first)

summarises_keyword : (k : Key) (a : ℕ) (w : List ℕ) (b n : ℕ) → Summarises (a ∷ w) (Keyword k n) → Summarises ((a ∷ w) ++ b ∷ []) (word_with (Keyword k n) b)
summarises_keyword k a w b n h = search (rules, and_parts, ltb-true, eqb-true, take-suc, append_assoc, keyword_other)

hash_other : (b : ℕ) (t : List ℕ) → IsOther (35 ∷ b ∷ t)
hash_other b t = record { number = refl; price = not_price_first 35 (b ∷ t) refl; ended = refl; keyword = elim [ Goods ↦ refl | Bids ↦ refl | Dummy ↦ refl ] }

summarises_more : (a : ℕ) (w : List ℕ) (b : ℕ) (s : Word) → Summarises (a ∷ w) s → Summarises ((a ∷ w) ++ b ∷ []) (word_with s b)
summarises_more a w b (Keyword k n) h = summarises_keyword k a w b n h
summarises_more a w b (Number v) h = summarises_number a w b v h
summarises_more a w b (Fraction d) h = summarises_fraction a w b d h
summarises_more a w b End h = λ t. subst IsOther (sym (ap (λ ds. (ds ++ b ∷ []) ++ t) h)) (hash_other b t)
summarises_more a w b Other h = λ t. subst IsOther (sym (append_assoc (a ∷ w) (b ∷ []) t)) (h (b ∷ t))

summarises_fold : (a : ℕ) (w rest : List ℕ) (s : Word) → Summarises (a ∷ w) s → Summarises ((a ∷ w) ++ rest) (fold word_with s rest)
summarises_fold a w [] s h = subst (λ ds. Summarises ds s) (sym (append-nil (a ∷ w))) h
summarises_fold a w (b ∷ rest) s h =
    search (rules, append_assoc, summarises_more, (summarises_fold a (w ++ b ∷ []) rest (word_with s b) (summarises_more a w b s h)))

-- what is kept of a word says of the word
pub summarises : (a : ℕ) (w : List ℕ) → Summarises (a ∷ w) (summary (a ∷ w))
summarises a w = summarises_fold a [] w (word_from a) (summarises_first a)
