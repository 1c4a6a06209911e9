-- What a price that is read is worth as a decimal.
use Rattle.rounding.proofs.Common.{◌≡◌, ℕ, ◌+◌, ◌-◌, ◌*◌, ◌^◌, true, false, not, ◌||◌, eqb, ltb, [], ◌∷◌, ◌++◌, length, refl, sym, ap, ◌∙◌, subst, ⊎_elim}
use Rattle.rounding.proofs.Common.{arith, common_steps, if◌then◌else◌, and_parts, and_from, cases_Bool, eqb-true, Word, is_digit, digits_alone, is_number}
use Rattle.rounding.proofs.Common.{number_of, whole_part, places, has_point, is_price, SpellsPrice, MAX_PRICE, is_decimal, significand, exponent}
use Rattle.rounding.proofs.Common.{has_exponent, digits, exact_top, exact_bottom, list_any, pow-add, PriceRule, is_kept, replacement, Exact, TooLarge}
use Rattle.rounding.proofs.Common.{both_ways, without_sign, pow-succ', or_parts, not-false}
use Rattle.rounding.specs.Decimals.{has_minus}
use Rattle.cats_text.specs.Numbers.{six_places, price_of, has_place_from}
use Rattle.rounding.proofs.Exactness.{whole_replaced}
use Rattle.rounding.proofs.Words.{number_leading}
use Rattle.rounding.proofs.Worth.{value, digit_range, number_append}

-- ---- a price has no exponent

digits_of_number : (w : Word) → is_number w ≡ true → digits_alone w ≡ true
digits_of_number [] h = refl
digits_of_number (b ∷ bs) h = h

no_point_no_places : (w : Word) → has_point w ≡ false → places w ≡ []
no_point_no_places [] h = refl
no_point_no_places (b ∷ bs) h = grind (arith, common_steps, (no_point_no_places bs))

places_are_digits : (w : Word) → is_price w ≡ true → digits_alone (places w) ≡ true
places_are_digits w h =
    let parts = and_parts (is_number (whole_part w)) (not (has_point w) || is_number (places w)) h in
    ⊎_elim
    (λ (p : has_point w ≡ true). digits_of_number (places w) (sym (ap (λ v. not v || is_number (places w)) p) ∙ parts.1))
    (λ (p : has_point w ≡ false). ap digits_alone (no_point_no_places w p))
    (cases_Bool (has_point w))

-- digits and one point
pub record IsPlain (w : Word) : Type 0 where
  pub significand_is : significand w ≡ w
  pub exponent_is : exponent w ≡ []
  pub none : has_exponent w ≡ false

plain_digit : (b : ℕ) → is_digit b ≡ true → (eqb b 101 || eqb b 69) ≡ false
plain_digit b h = grind (arith, common_steps, digit_range, eqb-true)

plain_digits : (w : Word) → digits_alone w ≡ true → IsPlain w
plain_digits [] h = record { significand_is = refl; exponent_is = refl; none = refl }
plain_digits (b ∷ bs) h = grind (arith, common_steps, and_parts, plain_digit, (plain_digits bs))

plain_word : (w : Word) → digits_alone (whole_part w) ≡ true → digits_alone (places w) ≡ true → IsPlain w
plain_word [] h k = record { significand_is = refl; exponent_is = refl; none = refl }
plain_word (b ∷ bs) h k = grind (arith, common_steps, and_parts, plain_digit, plain_digits, eqb-true, (plain_word bs))

plain_price : (w : Word) → is_price w ≡ true → IsPlain w
plain_price w h = plain_word w (digits_of_number (whole_part w) ((and_parts (is_number (whole_part w)) (not (has_point w) || is_number (places w)) h).0))
    (places_are_digits w h)

number_both : (a b : Word) → is_number a ≡ true → digits_alone b ≡ true → is_number (a ++ b) ≡ true
number_both [] b h k = absurd (both_ways false refl h)
number_both (x ∷ xs) b h k = number_leading x xs b ∙ and_from (digits_alone (x ∷ xs)) (digits_alone b) h k

pub price_is_decimal : (w : Word) → is_price w ≡ true → is_decimal w ≡ true
price_is_decimal w h =
    let plain : IsPlain w = plain_price w h in
    let whole : is_number (whole_part w) ≡ true = (and_parts (is_number (whole_part w)) (not (has_point w) || is_number (places w)) h).0 in
    let run : is_number (digits w) ≡ true = ap (λ (s : Word). is_number (whole_part s ++ places s)) plain.significand_is
    ∙ number_both (whole_part w) (places w) whole (places_are_digits w h) in
    and_from (is_number (digits w)) (not (has_exponent w) || is_number (without_sign (exponent w))) run
    (ap (λ v. not v || is_number (without_sign (exponent w))) plain.none)

-- ---- six places

no_places : (n : ℕ) (w : Word) → list_any (λ b. not (eqb b 48)) w ≡ false → value n w ≡ n * 10 ^ length w
no_places n [] h = omega arith
no_places n (b ∷ bs) h =
    let parts : (not (eqb b 48) ≡ false) × (list_any (λ c. not (eqb c 48)) bs ≡ false) = or_parts (not (eqb b 48)) (list_any (λ c. not (eqb c 48)) bs) h in
    let zero : b ≡ 48 = eqb-true b 48 (not-false (eqb b 48) parts.0) in
    let rest : value (10 * n + (b - 48)) bs ≡ (10 * n + (b - 48)) * 10 ^ length bs = no_places (10 * n + (b - 48)) bs parts.1 in
    let first : 10 * n + (b - 48) ≡ 10 * n = omega arith in
    rest ∙ ap (λ k. k * 10 ^ length bs) first ∙ turned n (10 ^ length bs) ∙ ap (λ k. n * k) (sym (pow-succ' 10 (length bs)))
  where
    turned : (a k : ℕ) → 10 * a * k ≡ a * (10 * k)
    turned a k = omega arith

-- the number of the places, and that of the first six of them
six : (b : Word) → has_place_from 6 b ≡ false → value 0 b * 10 ^ (6 - length b) ≡ value 0 (six_places b) * 10 ^ (length b - 6)
six [] h = refl
six (p ∷ []) h = omega arith
six (p ∷ q ∷ []) h = omega arith
six (p ∷ q ∷ r ∷ []) h = omega arith
six (p ∷ q ∷ r ∷ s ∷ []) h = omega arith
six (p ∷ q ∷ r ∷ s ∷ t ∷ []) h = omega arith
six (p ∷ q ∷ r ∷ s ∷ t ∷ u ∷ rest) h =
    let size : length (p ∷ q ∷ r ∷ s ∷ t ∷ u ∷ rest) - 6 ≡ length rest = omega arith in
    let none : 6 - length (p ∷ q ∷ r ∷ s ∷ t ∷ u ∷ rest) ≡ 0 = omega arith in
    ap (λ k. value 0 (p ∷ q ∷ r ∷ s ∷ t ∷ u ∷ rest) * 10 ^ k) none ∙ once (value 0 (p ∷ q ∷ r ∷ s ∷ t ∷ u ∷ rest))
    ∙ no_places (value 0 (p ∷ q ∷ r ∷ s ∷ t ∷ u ∷ [])) rest h ∙ ap (λ k. value 0 (p ∷ q ∷ r ∷ s ∷ t ∷ u ∷ []) * 10 ^ k) (sym size)
  where
    once : (n : ℕ) → n * 10 ^ 0 ≡ n
    once n = omega arith

-- ---- the value of a price

six_powers : (k : ℕ) → 10 ^ k * 10 ^ (6 - k) ≡ 1000000 * 10 ^ (k - 6)
six_powers k = sym (pow-add 10 k (6 - k)) ∙ ap (λ n. 10 ^ n) same ∙ pow-add 10 6 (k - 6)
  where
    same : k + (6 - k) ≡ 6 + (k - 6)
    same = omega arith

parts_worth : (a p b up s q : ℕ) → p * up ≡ 1000000 * q → b * up ≡ s * q → (a * p + b) * up ≡ (1000000 * a + s) * q
parts_worth a p b up s q e f = let more : a * (p * up) ≡ a * (1000000 * q) = ap (λ n. a * n) e in omega (arith, more, f)

fraction : (a b : Word) → has_place_from 6 b ≡ false
    → number_of (a ++ b) * 10 ^ (6 - length b) ≡ (1000000 * number_of a + number_of (six_places b)) * 10 ^ (length b - 6)
fraction a b h = ap (λ n. n * 10 ^ (6 - length b)) (number_append a b)
    ∙ parts_worth (value 0 a) (10 ^ length b) (value 0 b) (10 ^ (6 - length b)) (value 0 (six_places b)) (10 ^ (length b - 6)) (six_powers (length b)) (six b h)

-- the fraction of a word with these parts
fraction_of : Word → Word → Type 0
fraction_of s x = number_of (whole_part s ++ places s) * 10 ^ ((6 + 0 + (if has_minus x then 0 else number_of (without_sign x)))
    - (length (places s) + (if has_minus x then number_of (without_sign x) else 0)))
    ≡ (1000000 * number_of (whole_part s) + number_of (six_places (places s)))
    * 10 ^ ((length (places s) + (if has_minus x then number_of (without_sign x) else 0)) - (6 + 0 + (if has_minus x then 0 else number_of (without_sign x))))

plain_fraction : (w : Word) → has_place_from 6 (places w) ≡ false → fraction_of w []
unfolding fraction_of
plain_fraction w h =
    let none : length (places w) + 0 ≡ length (places w) = omega arith in
    subst (λ k. number_of (whole_part w ++ places w) * 10 ^ (6 - k) ≡ (1000000 * number_of (whole_part w) + number_of (six_places (places w))) * 10 ^ (k - 6))
    (sym none) (fraction (whole_part w) (places w) h)

pub price_value : (w : Word) (m : ℕ) → SpellsPrice w m → exact_top 0 w ≡ m * exact_bottom 0 w
unfolding fraction_of
price_value w m h =
    let plain : IsPlain w = plain_price w h.price in
    let same : whole_part (significand w) ≡ whole_part w = ap whole_part plain.significand_is in
    let is : fraction_of (significand w) (exponent w) = subst (λ (s : Word). fraction_of s (exponent w)) (sym plain.significand_is)
    (subst (λ (x : Word). fraction_of w x) (sym plain.exponent_is) (plain_fraction w h.exact)) in
    is ∙ ap (λ n. n * exact_bottom 0 w) (ap price_of plain.significand_is ∙ h.value)

-- ---- what replaces a price

pub price_replaced : (rule : PriceRule) (w : Word) (m : ℕ) → SpellsPrice w m → is_kept rule w ≡ false
    → replacement rule w ≡ (if ltb MAX_PRICE (10 ^ rule.tens * m) then TooLarge else Exact (10 ^ rule.tens * m))
price_replaced rule w m h k = whole_replaced rule w (10 ^ rule.tens * m) k (price_is_decimal w h.price)
    (ap (λ n. 10 ^ rule.tens * n) (price_value w m h) ∙ grouped (10 ^ rule.tens) m (exact_bottom 0 w))
  where
    grouped : (a b c : ℕ) → a * (b * c) ≡ a * b * c
    grouped a b c = omega arith
