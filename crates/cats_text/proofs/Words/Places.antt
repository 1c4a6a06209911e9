-- The digits behind a point, as a sum of what each place counts.
use Rattle.cats_text.proofs.Common.{rules, add-zero, ◌≡◌, ℕ, zero, suc, ◌+◌, ◌-◌, ◌*◌, ◌<◌, ◌≤◌, true, ◌||◌, ltb, leb, List, [], ◌∷◌, ◌++◌, length, refl, ap}
use Rattle.cats_text.proofs.Common.{mul-le-mul_right, arith, and_parts, eqb-true, eqb-false, ne_eqb, leb-true, lt-ltb, or_right, is_digit, digits_alone}
use Rattle.cats_text.proofs.Common.{number_of, six_places, has_place_from, place_value_of, common_steps}

-- what the digits from the n-th place on count, in millionths
abbrev pub places_from : ℕ → List ℕ → ℕ
places_from n [] = 0
places_from n (b ∷ bs) = (b - 48) * place_value_of n + places_from (suc n) bs

pub digit_bounds : (b : ℕ) → is_digit b ≡ true → (48 ≤ b) × (b ≤ 57)
digit_bounds b h = let both = and_parts (leb 48 b) (leb b 57) h in (leb-true 48 b both.0, leb-true b 57 both.1)

-- from the seventh place on nothing counts
pub place_value_late : (n : ℕ) → 6 ≤ n → place_value_of n ≡ 0
place_value_late n l = grind (arith, common_steps, ne_eqb)

pub places_late : (n : ℕ) (bs : List ℕ) → 6 ≤ n → places_from n bs ≡ 0
places_late n [] l = refl
places_late n (b ∷ bs) l = rw (place_value_late n l) (let later : places_from (suc n) bs ≡ 0 = places_late (suc n) bs (omega arith) in omega arith)

pub places-push : (n : ℕ) (bs : List ℕ) (b : ℕ) → places_from n (bs ++ b ∷ []) ≡ places_from n bs + (b - 48) * place_value_of (n + length bs)
places-push n [] b = let same : place_value_of (n + 0) ≡ place_value_of n = ap place_value_of (add-zero n) in rw same (omega arith)
places-push n (a ∷ bs) b =
    let later : places_from (suc n) (bs ++ b ∷ []) ≡ places_from (suc n) bs + (b - 48) * place_value_of (suc n + length bs) = places-push (suc n) bs b in
    let place : suc n + length bs ≡ n + length (a ∷ bs) = omega arith in
    search rules

-- the first six places as a number of six digits
pub places-six : (bs : List ℕ) → number_of (six_places bs) ≡ places_from 0 bs
places-six [] = refl
places-six (a ∷ b ∷ c ∷ d ∷ e ∷ f ∷ bs) = let none : places_from 6 bs ≡ 0 = places_late 6 bs (omega arith) in omega arith
places-six _ = omega arith

digit_le : (b : ℕ) (bs : List ℕ) → digits_alone (b ∷ bs) ≡ true → (b - 48 ≤ 9) × (digits_alone bs ≡ true)
digit_le b bs h = let both = and_parts (is_digit b) (digits_alone bs) h in let top : b ≤ 57 = (digit_bounds b both.0).1 in (omega arith, both.1)

-- less than ten times what its first place counts
below_place : (n : ℕ) (bs : List ℕ) → digits_alone bs ≡ true → 9 * place_value_of n + 10 * place_value_of (suc n) ≤ 10 * place_value_of n
    → places_from (suc n) bs ≤ 10 * place_value_of (suc n) → (b : ℕ) → b - 48 ≤ 9 → places_from n (b ∷ bs) ≤ 10 * place_value_of n
below_place n bs h step later b le = let product : (b - 48) * place_value_of n ≤ 9 * place_value_of n = mul-le-mul_right (place_value_of n) le in omega arith

-- less than a whole unit
pub places_below_one : (bs : List ℕ) → digits_alone bs ≡ true → places_from 0 bs ≤ 1000000
places_below_one bs h = at 6 0 bs h refl
  where
    at : (left n : ℕ) (bs : List ℕ) → digits_alone bs ≡ true → n + left ≡ 6 → places_from n bs ≤ 10 * place_value_of n
    at left n [] h e = omega arith
    at zero n (b ∷ bs) h e = rw (places_late n (b ∷ bs) (omega arith)) (omega arith)
    at (suc left) n (b ∷ bs) h e = let p = digit_le b bs h in below_place n bs p.1 (falls left n e) (at left (suc n) bs p.1 (omega arith)) b p.0
      where
        falls : (left n : ℕ) → n + suc left ≡ 6 → 9 * place_value_of n + 10 * place_value_of (suc n) ≤ 10 * place_value_of n
        falls zero n e = let is : n ≡ 5 = omega arith in rw is (omega arith)
        falls (suc zero) n e = let is : n ≡ 4 = omega arith in rw is (omega arith)
        falls (suc (suc zero)) n e = let is : n ≡ 3 = omega arith in rw is (omega arith)
        falls (suc (suc (suc zero))) n e = let is : n ≡ 2 = omega arith in rw is (omega arith)
        falls (suc (suc (suc (suc zero)))) n e = let is : n ≡ 1 = omega arith in rw is (omega arith)
        falls (suc (suc (suc (suc (suc zero))))) n e = let is : n ≡ 0 = omega arith in rw is (omega arith)
        falls (suc (suc (suc (suc (suc (suc k)))))) n e = absurd (omega arith)

-- ---- places that are not 0

place_value_pos : (n : ℕ) → n < 6 → 0 < place_value_of n
place_value_pos (suc (suc (suc (suc (suc (suc k)))))) l = absurd (omega arith)
place_value_pos _ l = omega arith

-- some digit is not 0: one behind the first six places, or one that counts
pub place_not_zero : (bs : List ℕ) → digits_alone bs ≡ true → has_place_from 0 bs ≡ (has_place_from 6 bs || ltb 0 (places_from 0 bs))
place_not_zero bs h =
    grind (arith, common_steps, and_parts, digit_bounds, eqb-false, eqb-true, lt-ltb, mul-le-mul_right, or_right, place_value_pos, places_late)
