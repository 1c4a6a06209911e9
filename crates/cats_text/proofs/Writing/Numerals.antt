-- What decimal digits spell.
use Rattle.cats_text.proofs.Common.{◌≡◌, ℕ, ◌+◌, ◌-◌, ◌*◌, ◌^◌, ◌<◌, true, [], ◌∷◌, length, fold, decimal, refl, sym, ap, ◌∙◌, arith, rules, pow-suc}
use Rattle.cats_text.proofs.Common.{IsNumeralModel, numerals_by_fold, digits_decimal, digits_value-decimal, decimal_nonempty, Word, digits_alone, is_number}
use Rattle.cats_text.proofs.Common.{number_of, SpellsNumber, common_steps}

-- digits behind a number
abbrev pub number_then : ℕ → Word → ℕ
number_then n w = fold (λ n b. 10 * n + (b - 48)) n w

pub numerals : IsNumeralModel (λ ds. digits_alone ds ≡ true) number_of
numerals = numerals_by_fold _ (search rules) number_then (search rules)

pub digits_from_number : (w : Word) → is_number w ≡ true → digits_alone w ≡ true
digits_from_number [] number = refl
digits_from_number (b ∷ bs) number = number

pub is_number_from_digits : (w : Word) → digits_alone w ≡ true → 0 < length w → is_number w ≡ true
is_number_from_digits [] digits some = absurd (omega arith)
is_number_from_digits (b ∷ bs) digits some = digits

-- a number as it is written
pub decimal_spells : (n : ℕ) → n < 2 ^ 64 → SpellsNumber (decimal n) n
decimal_spells n fits = grind (arith, common_steps, decimal_nonempty, digits_decimal, digits_value-decimal, is_number_from_digits, numerals)

carried : (n d p v : ℕ) → (10 * n + d) * p + v ≡ n * (p * 10) + ((10 * 0 + d) * p + v)
carried n d p v = grind arith

number_then_is : (n : ℕ) (w : Word) → number_then n w ≡ n * 10 ^ length w + number_of w
number_then_is n [] = omega arith
number_then_is n (b ∷ bs) =
    number_then_is (10 * n + (b - 48)) bs ∙ carried n (b - 48) (10 ^ length bs) (number_of bs)
    ∙ ap (λ m. n * (10 ^ length bs * 10) + m) (sym (number_then_is (10 * 0 + (b - 48)) bs))
    ∙ ap (λ p. n * p + number_of (b ∷ bs)) (sym (pow-suc 10 (length bs)))

-- the first digit by its place
pub number_of-cons : (b : ℕ) (bs : Word) → number_of (b ∷ bs) ≡ (b - 48) * 10 ^ length bs + number_of bs
number_of-cons b bs = number_then_is (10 * 0 + (b - 48)) bs ∙ ap (λ n. n * 10 ^ length bs + number_of bs) (omega arith)
