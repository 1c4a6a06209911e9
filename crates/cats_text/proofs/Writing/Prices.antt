-- What the text of a price spells.
use Rattle.cats_text.proofs.Common.{◌≡◌, ℕ, ◌+◌, ◌*◌, ◌/◌, ◌%◌, ◌^◌, ◌<◌, ◌≤◌, true, false, eqb, [], ◌∷◌, ◌++◌, length, decimal, refl, sym, ap, subst, ◌∙◌}
use Rattle.cats_text.proofs.Common.{inl, inr, arith, length-append, and_parts, and_from, or_left, or_right, cases_eq, cond-false, ne_eqb, drop_all, Word}
use Rattle.cats_text.proofs.Common.{is_digit, digits_alone, is_number, number_of, places, six_places, SpellsNumber, SpellsPrice, without_zeros, six_digits}
use Rattle.cats_text.proofs.Common.{places_text, price_text, common_steps, append-nil}
use Rattle.cats_text.proofs.Writing.Numerals.{decimal_spells, digits_from_number, is_number_from_digits}
use Rattle.cats_text.proofs.Words.Places.{digit_bounds}
use Rattle.cats_text.proofs.Words.Kept.{whole-digits, point-digits, whole-point, places-point}
use Rattle.cats_text.proofs.Writing.SixDigits.{six_digits_spell, six_places-without_zeros, digits_alone-without_zeros, length-without_zeros-le}
use Rattle.cats_text.proofs.Writing.SixDigits.{places_text_none, places_text_some}
use Rattle.cats_text.proofs.Writing.TextLines.{IsWord, IsLetter, all_append, digits_are_letters, number_is_word}

digit_not_point : (b : ℕ) → is_digit b ≡ true → eqb b 46 ≡ false
digit_not_point b digit = let bounds = digit_bounds b digit in ne_eqb b 46 (λ e. omega arith)

-- ---- digits alone

places-digits : (w : Word) → digits_alone w ≡ true → places w ≡ []
places-digits [] digits = refl
places-digits (b ∷ bs) digits = grind (arith, common_steps, and_parts, cond-false, digit_not_point, (places-digits bs))

whole_price : (w : Word) (n : ℕ) → SpellsNumber w n → SpellsPrice w (1000000 * n)
whole_price w n spelled = grind (arith, common_steps, and_from, digits_from_number, or_left, places-digits, point-digits, whole-digits)

-- ---- digits, a point and digits

pointed_price : (w ds : Word) (n m : ℕ) → SpellsNumber w n → is_number ds ≡ true → length ds ≤ 6 → number_of (six_places ds) ≡ m
    → SpellsPrice (w ++ 46 ∷ ds) (1000000 * n + m)
pointed_price w ds n m spelled places_number few value =
    grind (arith, common_steps, and_from, digits_from_number, drop_all, or_right, places-point, whole-point)

-- ---- as it is written

abbrev IsPriceWord : ℕ → Word → Type 0
IsPriceWord millionths w = SpellsPrice w millionths × IsWord w

no_places : (n m p : ℕ) → n < 2 ^ 64 → m ≡ 0 → p ≡ 1000000 * n + m → IsPriceWord p (decimal n ++ places_text m)
no_places n m p fits none value =
    let spelled = decimal_spells n fits in
    let text : decimal n ≡ decimal n ++ places_text m = sym (ap (λ w. decimal n ++ w) (places_text_none m none) ∙ append-nil (decimal n)) in
    let price : 1000000 * n ≡ p = omega arith in
    subst (IsPriceWord p) text (subst (SpellsPrice (decimal n)) price (whole_price (decimal n) n spelled), number_is_word (decimal n) spelled.number)

some_digits : (ds : Word) (m : ℕ) → number_of (six_places ds) ≡ m → 0 < m → 0 < length ds
some_digits [] m value some = absurd (omega (arith, value))
some_digits (b ∷ bs) m value some = omega arith

with_places : (n m p : ℕ) → n < 2 ^ 64 → m < 1000000 → 0 < m → p ≡ 1000000 * n + m → IsPriceWord p (decimal n ++ places_text m)
with_places n m p fits small some value =
    let spelled = decimal_spells n fits in
    let six = six_digits_spell m small in
    let ds : Word = without_zeros (six_digits m) in
    let digits : digits_alone ds ≡ true = digits_alone-without_zeros (six_digits m) six.digits in
    let worth : number_of (six_places ds) ≡ m = ap number_of (six_places-without_zeros (six_digits m) six.long) ∙ six.value in
    let few : length ds ≤ 6 = omega (arith, length-without_zeros-le (six_digits m), six.long) in
    let there : 0 < length ds = some_digits ds m worth some in
    let text : decimal n ++ 46 ∷ ds ≡ decimal n ++ places_text m = ap (λ w. decimal n ++ w) (sym (places_text_some m some small)) in
    let whole = number_is_word (decimal n) spelled.number in
    let point : IsLetter 46 = record { blank = refl; line = record { feed = refl; return = refl } } in
    let word : IsWord (decimal n ++ 46 ∷ ds) = record {
      some = omega (arith, length-append (decimal n) (46 ∷ ds));
      letters = all_append IsLetter (decimal n) (46 ∷ ds) whole.letters (point, digits_are_letters ds digits);
    } in
    subst (IsPriceWord p) text (
      subst (SpellsPrice (decimal n ++ 46 ∷ ds)) (sym value) (pointed_price (decimal n) ds n m spelled (is_number_from_digits ds digits there) few worth),
      word,
    )

price_word : (p : ℕ) → p / 1000000 < 2 ^ 64 → IsPriceWord p (price_text p)
price_word p fits =
    let value : p ≡ 1000000 * (p / 1000000) + p % 1000000 = omega arith in
    elim (cases_eq (p % 1000000) 0) as (λ _. IsPriceWord p (price_text p)) [
      | inl none ↦ no_places (p / 1000000) (p % 1000000) p fits none value
      | inr some ↦ with_places (p / 1000000) (p % 1000000) p fits (omega arith) (omega arith) value
    ]

-- the text of a price spells it
pub price_text_spells : (p : ℕ) → p / 1000000 < 2 ^ 64 → SpellsPrice (price_text p) p
price_text_spells p fits = (price_word p fits).0

pub price_text_is_word : (p : ℕ) → p / 1000000 < 2 ^ 64 → IsWord (price_text p)
price_text_is_word p fits = (price_word p fits).1
