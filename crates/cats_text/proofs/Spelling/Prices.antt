-- Prices: a price that is neither too large nor too fine is at most the greatest one in millionths, and the other way round.
use Rattle.cats_text.proofs.Common.{rules, ◌≡◌, ℕ, suc, ◌+◌, ◌-◌, ◌*◌, ◌^◌, ◌<◌, ◌≤◌, Bool, true, false, not, eqb, ltb, leb, ◌&&◌, List, [], ◌∷◌, ◌++◌, length}
use Rattle.cats_text.proofs.Common.{take, refl, sym, ◌∙◌, subst, arith, length-append, both_ways, eqb-true, eq-eqb, ltb-false, le-ltb, leb-true, or_cases}
use Rattle.cats_text.proofs.Common.{or_parts, or_from, and_parts, and_from, not-true, false_from_ne_true, not-false, cases_Bool, take-append-drop}
use Rattle.cats_text.proofs.Common.{list_any-append, list_all-append, mul-le-mul_left, pow-succ', list_any, list_all, Word, is_digit, digits_alone, is_number}
use Rattle.cats_text.proofs.Common.{number_of, whole_part, has_point, places, is_price, has_place_from, is_too_large, is_too_fine, six_places, price_of}
use Rattle.cats_text.proofs.Common.{GREATEST_PRICE, MAX_PRICE, common_steps, length-take, fold}

-- ---- what digits are worth

abbrev value : ℕ → Word → ℕ
value n w = fold (λ m b. 10 * m + (b - 48)) n w

abbrev is_place : ℕ → Bool
is_place b = not (eqb b 48)

digit_range : (b : ℕ) → is_digit b ≡ true → (48 ≤ b) × (b ≤ 57)
digit_range b h = let p : (leb 48 b ≡ true) × (leb b 57 ≡ true) = and_parts (leb 48 b) (leb b 57) h in (leb-true 48 b p.0, leb-true b 57 p.1)

one_digit : (power n d v : ℕ) → d ≤ 9 → v < (10 * n + d + 1) * power → v < (n + 1) * (10 * power)
one_digit power n d v l h = let factor : 10 * n + d + 1 ≤ 10 * n + 10 = omega arith in omega (arith, mul-le-mul_left power factor)

value_below : (n : ℕ) (w : Word) → digits_alone w ≡ true → value n w < (n + 1) * 10 ^ length w
value_below n [] h = omega arith
value_below n (b ∷ bs) h =
    let p : (is_digit b ≡ true) × (digits_alone bs ≡ true) = and_parts (is_digit b) (digits_alone bs) h in
    let range : (48 ≤ b) × (b ≤ 57) = digit_range b p.0 in
    let small : b ≤ 57 = range.1 in
    let rest : value (10 * n + (b - 48)) bs < (10 * n + (b - 48) + 1) * 10 ^ length bs = value_below (10 * n + (b - 48)) bs p.1 in
    let power : 10 ^ (suc (length bs)) ≡ 10 * 10 ^ length bs = pow-succ' 10 (length bs) in
    subst (λ k. value n (b ∷ bs) < (n + 1) * k) (sym power) (one_digit (10 ^ length bs) n (b - 48) (value n (b ∷ bs)) (omega arith) rest)

value_least : (n : ℕ) (w : Word) → n ≤ value n w
value_least n [] = omega arith
value_least n (b ∷ bs) = let rest : 10 * n + (b - 48) ≤ value (10 * n + (b - 48)) bs = value_least (10 * n + (b - 48)) bs in omega arith

value_zero : (w : Word) → list_any is_place w ≡ false → value 0 w ≡ 0
value_zero [] h = refl
value_zero (b ∷ bs) h = grind (arith, common_steps, eqb-true, not-false, or_parts, (value_zero bs))

zero_value : (n : ℕ) (w : Word) → digits_alone w ≡ true → value n w ≡ 0 → list_any is_place w ≡ false
zero_value n [] h e = refl
zero_value n (b ∷ bs) h e = grind (arith, common_steps, and_parts, digit_range, eq-eqb, or_from, value_least, (zero_value (10 * n + (b - 48)) bs))

-- ---- six places

abbrev zeros : Word
zeros = 48 ∷ 48 ∷ 48 ∷ 48 ∷ 48 ∷ 48 ∷ []

all_take : (p : ℕ → Bool) (k : ℕ) (xs : List ℕ) → list_all p xs ≡ true → list_all p (take k xs) ≡ true
all_take p (suc k) (x ∷ xs) h = grind (arith, common_steps, and_from, and_parts, (all_take p k xs))
all_take p _ _ h = refl

none_take : (p : ℕ → Bool) (k : ℕ) (xs : List ℕ) → list_any p xs ≡ false → list_any p (take k xs) ≡ false
none_take p (suc k) (x ∷ xs) h = grind (arith, common_steps, or_from, or_parts, (none_take p k xs))
none_take p _ _ h = refl

none_in_prefix : (p : ℕ → Bool) (k : ℕ) (xs ys : List ℕ) → list_any p (take k (xs ++ ys)) ≡ false → list_any p (take k xs) ≡ false
none_in_prefix p (suc k) (x ∷ xs) ys h = grind (arith, common_steps, or_from, or_parts, (none_in_prefix p k xs ys))
none_in_prefix p _ _ ys h = refl

six_digits_alone : (ds : Word) → digits_alone ds ≡ true → digits_alone (six_places ds) ≡ true
six_digits_alone ds h = all_take is_digit 6 (ds ++ zeros) (list_all-append is_digit ds zeros ∙ and_from (digits_alone ds) true h refl)

length_six : (ds : Word) → length (six_places ds) ≡ 6
length_six ds = let all : length (ds ++ zeros) ≡ length ds + 6 = length-append ds zeros in omega (arith, length-take 6 (ds ++ zeros))

six_below : (ds : Word) → digits_alone ds ≡ true → number_of (six_places ds) < 1000000
six_below ds h = grind (arith, common_steps, length_six, six_digits_alone, value_below)

six_zero : (ds : Word) → list_any is_place ds ≡ false → number_of (six_places ds) ≡ 0
six_zero ds h = search (rules, value_zero, none_take, list_any-append, or_from)

zero_six : (ds : Word) → digits_alone ds ≡ true → has_place_from 6 ds ≡ false → number_of (six_places ds) ≡ 0 → list_any is_place ds ≡ false
zero_six ds h fine e = grind (arith, common_steps, list_any-append, none_in_prefix, or_from, six_digits_alone, take-append-drop, zero_value)

-- ---- prices

number_digits : (w : Word) → is_number w ≡ true → digits_alone w ≡ true
number_digits [] h = refl
number_digits (b ∷ bs) h = h

no_places : (w : Word) → has_point w ≡ false → places w ≡ []
no_places [] h = refl
no_places (b ∷ bs) h = grind (arith, common_steps, or_parts, (no_places bs))

places_digits : (w : Word) → is_price w ≡ true → digits_alone (places w) ≡ true
places_digits w h = grind (arith, common_steps, and_parts, no_places, not-true, number_digits, or_cases)

pub price_below : (w : Word) → is_price w ≡ true → is_too_large w ≡ false → price_of w ≤ MAX_PRICE
price_below w h large = grind (arith, common_steps, and_from, both_ways, cases_Bool, eq-eqb, ltb-false, or_parts, places_digits, six_below, six_zero)

pub price_small : (w : Word) → is_price w ≡ true → is_too_fine w ≡ false → price_of w ≤ MAX_PRICE → is_too_large w ≡ false
price_small w h fine le =
    or_from (ltb GREATEST_PRICE (number_of (whole_part w))) (eqb (number_of (whole_part w)) GREATEST_PRICE && has_place_from 0 (places w))
    (le-ltb GREATEST_PRICE (number_of (whole_part w)) (omega arith))
    (false_from_ne_true (eqb (number_of (whole_part w)) GREATEST_PRICE && has_place_from 0 (places w)) (λ e.
    let p : (eqb (number_of (whole_part w)) GREATEST_PRICE ≡ true) × (has_place_from 0 (places w) ≡ true) =
    and_parts (eqb (number_of (whole_part w)) GREATEST_PRICE) (has_place_from 0 (places w)) e in
    let whole : number_of (whole_part w) ≡ GREATEST_PRICE = eqb-true (number_of (whole_part w)) GREATEST_PRICE p.0 in
    let none : number_of (six_places (places w)) ≡ 0 = omega arith in
    both_ways (has_place_from 0 (places w)) (zero_six (places w) (places_digits w h) fine none) p.1))
