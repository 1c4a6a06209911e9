-- The zeros at the end of digits.
use Rattle.cats_text.proofs.Common.{◌≡◌, ◌≢◌, ℕ, ◌+◌, ◌/◌, ◌%◌, ◌^◌, ◌<◌, List, [], ◌∷◌, ◌++◌, length, drop, eqb, decimal, refl, sym, ap, ◌∙◌, arith}
use Rattle.cats_text.proofs.Common.{length-append, cases_lt, cond-false, cond_both, ne_eqb, decimal_digit, decimal_step, with_place, without_zeros}
use Rattle.cats_text.proofs.Common.{common_steps}

without_zeros_push : (xs : List ℕ) → without_zeros (xs ++ 48 ∷ []) ≡ without_zeros xs
without_zeros_push [] = refl
without_zeros_push (x ∷ xs) = ap (with_place x) (without_zeros_push xs)

with_place-more : (b : ℕ) (xs : List ℕ) → 0 < length xs → with_place b xs ≡ b ∷ xs
with_place-more b [] some = absurd (omega arith)
with_place-more b (x ∷ xs) some = refl

without_zeros_stops : (xs : List ℕ) (b : ℕ) → b ≢ 48 → without_zeros (xs ++ b ∷ []) ≡ xs ++ b ∷ []
without_zeros_stops [] b other = cond-false _ [] (b ∷ []) (ne_eqb b 48 other)
without_zeros_stops (x ∷ xs) b other = grind (arith, common_steps, length-append, with_place-more, (without_zeros_stops xs b other))

-- a zero at the end goes
pub zero_dropped : (n : ℕ) → 0 < n → n < 2 ^ 64 → n % 10 ≡ 0 → without_zeros (decimal (n / 10)) ≡ without_zeros (decimal n)
zero_dropped n some fits zero =
    let step = decimal_step n (omega arith) fits in
    sym (without_zeros_push (decimal (n / 10))) ∙ ap (λ d. without_zeros (decimal (n / 10) ++ (48 + d) ∷ [])) (sym zero) ∙ ap without_zeros (sym step)

-- another digit at the end stays
pub last_stays : (n : ℕ) → n < 2 ^ 64 → n % 10 ≢ 0 → without_zeros (decimal n) ≡ decimal n
last_stays n fits other = grind (arith, common_steps, cases_lt, decimal_digit, decimal_step, without_zeros_stops)

drop_place : (b : ℕ) (ws : List ℕ) → drop 1 (with_place b ws) ≡ ws
drop_place b [] = cond_both (eqb b 48) [] (b ∷ []) (λ (ws : List ℕ). drop 1 ws ≡ []) (λ _. refl) (λ _. refl)
drop_place b (c ∷ cs) = refl

-- the first digit is not looked at by those behind it
pub drop_without_zeros : (ds : List ℕ) → drop 1 (without_zeros ds) ≡ without_zeros (drop 1 ds)
drop_without_zeros [] = refl
drop_without_zeros (d ∷ ds) = drop_place d (without_zeros ds)
