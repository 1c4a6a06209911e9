-- The six digits behind the point: what they spell, and that taking away the zeros at their end loses nothing.
use Rattle.cats_text.proofs.Common.{rules, ◌≡◌, ℕ, zero, suc, ◌+◌, nat_le, List, map, ◌<◌, ◌≤◌, true, eqb, [], ◌∷◌, ◌++◌, length, take, drop, replicate}
use Rattle.cats_text.proofs.Common.{decimal, sym, refl, ap, subst, ◌∙◌, inl, inr, arith, le-leb, and_parts, and_from, cases_eq, cond-false, cond_both, ne_eqb}
use Rattle.cats_text.proofs.Common.{decimal-digits_value, Word, is_digit, digits_alone, number_of, six_places, with_place, without_zeros, digit_at, six_digits}
use Rattle.cats_text.proofs.Common.{behind_point, places_text, common_steps}
use Rattle.std.specs.Fmt.{digits}
use Rattle.cats_text.proofs.Writing.Zeros.{drop_without_zeros}
use Rattle.cats_text.proofs.Writing.Numerals.{numerals, number_of-cons}

-- six digits of this value
pub record SpellsPlaces (w : Word) (n : ℕ) : Type 0 where
  pub long : length w ≡ 6
  pub digits : digits_alone w ≡ true
  pub value : number_of w ≡ n

is_digit_at : (n place : ℕ) → is_digit (digit_at n place) ≡ true
is_digit_at n place = grind (arith, common_steps, and_from, le-leb, nat_le)

digits_at : (n : ℕ) (at : List ℕ) → digits_alone (map (digit_at n) at) ≡ true
digits_at n [] = refl
digits_at n (place ∷ at) = and_from (is_digit (digit_at n place)) (digits_alone (map (digit_at n) at)) (is_digit_at n place) (digits_at n at)

-- millionths
pub six_digits_spell : (n : ℕ) → n < 1000000 → SpellsPlaces (six_digits n) n
six_digits_spell n places = grind (arith, common_steps, digits_at)

-- a leading 1 counts a million
seven_digits : (n : ℕ) → n < 1000000 → decimal (1000000 + n) ≡ 49 ∷ six_digits n
seven_digits n places =
    let six = six_digits_spell n places in
    let value : number_of (49 ∷ six_digits n) ≡ 1000000 + n = number_of-cons 49 (six_digits n) ∙ ap (λ m. 1000000 + m) six.value in
    sym (ap decimal value) ∙ decimal-digits_value numerals (49 ∷ six_digits n) (and_from true (digits_alone (six_digits n)) refl six.digits) (omega arith)
    (λ e. absurd (omega (arith, e))) (omega (arith, value))

-- ---- with zeros behind it again

place_filled : (b : ℕ) (ws ds : Word) (k : ℕ) → ((j : ℕ) → length ds ≤ j → take (length ds) (ws ++ replicate j 48) ≡ ds) → suc (length ds) ≤ k
    → take (suc (length ds)) (with_place b ws ++ replicate k 48) ≡ b ∷ ds
place_filled b (c ∷ cs) ds k filled space = ap (λ xs. b ∷ xs) (filled k (omega arith))
place_filled b [] ds zero filled space = absurd (omega arith)
place_filled b [] ds (suc k) filled space = elim (cases_eq b 48) as (λ _. take (suc (length ds)) (with_place b [] ++ replicate (suc k) 48) ≡ b ∷ ds) [
  | inl zero_digit ↦ search rules
  | inr other ↦ ap (λ ws. take (suc (length ds)) (ws ++ replicate (suc k) 48)) (cond-false (eqb b 48) [] (b ∷ []) (ne_eqb b 48 other))
      ∙ ap (λ xs. b ∷ xs) (filled (suc k) (omega arith))
]

without_zeros_filled : (ds : Word) (k : ℕ) → length ds ≤ k → take (length ds) (without_zeros ds ++ replicate k 48) ≡ ds
without_zeros_filled [] k space = refl
without_zeros_filled (b ∷ bs) k space = place_filled b (without_zeros bs) bs k (without_zeros_filled bs) space

-- a price reads these as the digits that they were
pub six_places-without_zeros : (ds : Word) → length ds ≡ 6 → six_places (without_zeros ds) ≡ ds
six_places-without_zeros ds six = subst (λ (n : ℕ). take n (without_zeros ds ++ replicate 6 48) ≡ ds) six (without_zeros_filled ds 6 (omega arith))

place_digits : (b : ℕ) (ws : Word) → is_digit b ≡ true → digits_alone ws ≡ true → digits_alone (with_place b ws) ≡ true
place_digits b (c ∷ cs) here there = and_from (is_digit b) (digits_alone (c ∷ cs)) here there
place_digits b [] here there = cond_both (eqb b 48) [] (b ∷ []) (λ (ws : Word). digits_alone ws ≡ true) (λ _. refl) (λ _. and_from (is_digit b) true here refl)

pub digits_alone-without_zeros : (ds : Word) → digits_alone ds ≡ true → digits_alone (without_zeros ds) ≡ true
digits_alone-without_zeros [] digits = refl
digits_alone-without_zeros (b ∷ bs) digits = grind (arith, common_steps, and_parts, place_digits, (digits_alone-without_zeros bs))

place_length : (b : ℕ) (ws : Word) → length (with_place b ws) ≤ suc (length ws)
place_length b (c ∷ cs) = omega arith
place_length b [] = cond_both (eqb b 48) [] (b ∷ []) (λ (ws : Word). length ws ≤ 1) (λ _. omega arith) (λ _. omega arith)

pub length-without_zeros-le : (ds : Word) → length (without_zeros ds) ≤ length ds
length-without_zeros-le [] = omega arith
length-without_zeros-le (b ∷ bs) = omega (arith, place_length b (without_zeros bs), length-without_zeros-le bs)

-- ---- nothing is written of no millionths

some_places : (ws : Word) (n : ℕ) → number_of (six_places ws) ≡ n → 0 < n → behind_point ws ≡ 46 ∷ ws
some_places [] n value some = absurd (omega (arith, value))
some_places (b ∷ bs) n value some = refl

places_text_zero : places_text 0 ≡ []
unfolding digits
places_text_zero = refl

pub places_text_none : (n : ℕ) → n ≡ 0 → places_text n ≡ []
places_text_none n none = ap places_text none ∙ places_text_zero

pub places_text_some : (n : ℕ) → 0 < n → n < 1000000 → places_text n ≡ 46 ∷ without_zeros (six_digits n)
places_text_some n some places = grind (arith, common_steps, six_digits_spell, six_places-without_zeros, some_places)

-- the point in place of the first digit of the seven
pub places_written : (shown n : ℕ) → 0 < n → n < 1000000 → decimal shown ≡ without_zeros (decimal (1000000 + n)) → 46 ∷ drop 1 (decimal shown) ≡ places_text n
places_written shown n some places e = grind (arith, common_steps, drop_without_zeros, places_text_some, seven_digits)
