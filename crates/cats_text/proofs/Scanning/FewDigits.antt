-- The digits at the start of bytes and the number that they spell, where they are few.
use Rattle.cats_text.proofs.Common.{rules, ◌≡◌, ℕ, suc, ◌+◌, ◌-◌, ◌*◌, ◌%◌, ◌^◌, ◌<◌, ◌≤◌, min, true, false, cond, List, [], ◌∷◌, length, take, drop}
use Rattle.cats_text.proofs.Common.{slice_range, ap, fold, Option, Some, None, IfSome, refl, sym, ◌∙◌, subst, arith, lt_of_lt_of_le, pow-suc, pow-le-pow_right}
use Rattle.cats_text.proofs.Common.{mod-eq_of_lt, and_parts, and_from, lt-ltb, length-take, digit_value, digits_len, digits_value, digits_value_after}
use Rattle.cats_text.proofs.Common.{digits_len_short, is_digit, digits_alone, word_with, Number, IsNumberSoFar, common_steps, take-take}
use Rattle.core.proofs.dec2flt.DigitsLemmas.{is_digit as digit_worth}
use Rattle.cats_text.proofs.Words.Places.{digit_bounds}
use Rattle.cats_text.proofs.Scanning.ManyBytes.{number_with}

digits_in_prefix : (bs : List ℕ) → digits_alone (take (digits_len bs) bs) ≡ true
digits_in_prefix [] = refl
digits_in_prefix (b ∷ bs) = elim (is_digit b) as (λ t. is_digit b ≡ t → digits_alone (take (cond t (1 + digits_len bs) 0) (b ∷ bs)) ≡ true) [
  | true ↦ search (rules, and_from, (digits_in_prefix bs))
  | false ↦ λ (d : is_digit b ≡ false). refl
] refl

-- up to thirteen digits are not held back, and spell what they are worth
few_spell : (ds : List ℕ) (v k : ℕ) → v < 10 ^ k → k + length ds ≤ 13 → digits_alone ds ≡ true
    → (Number (digits_value_after 10 v ds) ≡ fold word_with (Number v) ds) × (digits_value_after 10 v ds < 10 ^ 13)
few_spell [] v k small few h = grind (arith, common_steps, lt_of_lt_of_le, pow-le-pow_right)
few_spell (b ∷ ds) v k small few h =
    let rest = few_spell ds (v * 10 + digit_value b) (suc k) in
    grind (arith, common_steps, and_parts, digit_bounds, digit_worth, lt-ltb, number_with, pow-le-pow_right, pow-suc, rest)

-- few digits at the start and what they are worth
few_spelt : (bytes : List ℕ) (count value : ℕ) → digits_len bytes ≡ count → count ≤ 13 → value ≡ digits_value 10 (take count bytes)
    → IsNumberSoFar 0 bytes count value
few_spelt bytes count value prefix few worth =
    let digits : digits_alone (take count bytes) ≡ true = subst (λ k. digits_alone (take k bytes) ≡ true) prefix (digits_in_prefix bytes) in
    let long : length (take count bytes) ≡ min count (length bytes) = length-take count bytes in
    record { digits = digits; value = ap (λ n. Number n) worth ∙ (few_spell (take count bytes) 0 0 (omega arith) (omega arith) digits).0 }

-- where a byte of the first eight is no digit
pub eight_read : (bytes : List ℕ) (count value : ℕ) → count < 8 → count ≡ digits_len (take 8 bytes)
    → value ≡ digits_value 10 (take count (take 8 bytes)) → IsNumberSoFar 0 bytes count value
eight_read bytes count value few is worth =
    let short : digits_len (take 8 bytes) < 8 = omega (arith, is) in
    few_spelt bytes count value (digits_len_short bytes 8 short ∙ sym is) (omega arith)
    (worth ∙ ap (λ ds. digits_value 10 ds) (take-take count 8 bytes (omega arith)))

-- (if they were read)
pub if_eight_read : (bytes : List ℕ) (r : Option (ℕ × ℕ)) → IfSome r (λ r. r.1 < 8) → IfSome r (λ r. r.1 ≡ digits_len (take 8 bytes))
    → IfSome r (λ r. r.0 ≡ digits_value 10 (take r.1 (take 8 bytes))) → IfSome r (λ r. IsNumberSoFar 0 bytes r.1 r.0)
if_eight_read bytes None few is worth = tt
if_eight_read bytes (Some r) few is worth = eight_read bytes r.1 r.0 few is worth

-- or where the digits were read as one number of 64 bits
pub few_read : (bytes : List ℕ) (count value : ℕ) → count ≡ 0 + digits_len (drop 0 bytes) → count ≤ 13
    → value ≡ (0 * 10 ^ (count - 0) + digits_value 10 (slice_range bytes 0 count)) % 2 ^ 64 → IsNumberSoFar 0 bytes count value
few_read bytes count value all few is =
    let prefix : digits_len bytes ≡ count = omega arith in
    let digits : digits_alone (take count bytes) ≡ true = subst (λ k. digits_alone (take k bytes) ≡ true) prefix (digits_in_prefix bytes) in
    let long : length (take count bytes) ≡ min count (length bytes) = length-take count bytes in
    let same : count - 0 ≡ count = omega arith in
    let worth : digits_value 10 (slice_range bytes 0 count) ≡ digits_value 10 (take count bytes) = ap (λ k. digits_value 10 (take k bytes)) same in
    let small : digits_value 10 (take count bytes) < 10 ^ 13 = (few_spell (take count bytes) 0 0 (omega arith) (omega arith) digits).1 in
    let sum : 0 * 10 ^ (count - 0) + digits_value 10 (slice_range bytes 0 count) ≡ digits_value 10 (take count bytes) = omega arith in
    let fits : digits_value 10 (take count bytes) < 2 ^ 64 = omega arith in
    few_spelt bytes count value prefix few (is ∙ ap (λ n. n % 2 ^ 64) sum ∙ mod-eq_of_lt fits)
