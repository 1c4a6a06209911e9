-- From a value that is held to its replacement.
use Rattle.rounding.proofs.Common.{◌≡◌, ℕ, suc, ◌+◌, ◌*◌, ◌/◌, ◌%◌, ◌<◌, ◌≤◌, min, true, false, not, eqb, ltb, refl, sym, ap, ◌∙◌, arith, ⊎_elim, lt-ltb, Round}
use Rattle.rounding.proofs.Common.{le-ltb, ltb-false, cases_lt, eqb-true, eqb-false, mul-le, div-add-mod', mod_below, MAX_PRICE, nearest, replacement_of, Exact}
use Rattle.rounding.proofs.Common.{Refuse, Rounded, TooLarge, TooFine, common_steps}

abbrev held : ℕ → ℕ
held n = min (suc MAX_PRICE) n

pub round_large : (n d r : ℕ) → held r ≡ held (nearest n d) → MAX_PRICE < r → TooLarge ≡ replacement_of Round n d
round_large n d r e l = let above : ltb MAX_PRICE (nearest n d) ≡ true = lt-ltb MAX_PRICE (nearest n d) (omega arith) in rw above refl

nearest_small : (n d r : ℕ) → held r ≡ held (nearest n d) → r ≤ MAX_PRICE → r ≡ nearest n d
nearest_small n d r e l = omega arith

pub round_whole : (n d r v : ℕ) → held r ≡ held (nearest n d) → r ≤ MAX_PRICE → v ≡ held (n / d) → eqb (n % d) 0 ≡ true → Exact v ≡ replacement_of Round n d
round_whole n d r v e l ev w = grind (arith, common_steps, le-ltb, nearest_small)

pub round_fine : (n d r : ℕ) → held r ≡ held (nearest n d) → r ≤ MAX_PRICE → eqb (n % d) 0 ≡ false → Rounded r ≡ replacement_of Round n d
round_fine n d r e l w = grind (arith, common_steps, le-ltb, nearest_small)

-- ---- above the greatest price

pub above_equal : (n d v : ℕ) → 0 < d → v ≡ held (n / d) → v ≡ MAX_PRICE → not (eqb (n % d) 0) ≡ ltb (MAX_PRICE * d) n
above_equal n d v some ev e = grind (arith, common_steps, div-add-mod', eqb-false, eqb-true, le-ltb, lt-ltb)

pub above_other : (n d v : ℕ) → 0 < d → v ≡ held (n / d) → (v ≡ MAX_PRICE → ⊥) → ltb MAX_PRICE v ≡ ltb (MAX_PRICE * d) n
above_other n d v some ev ne =
    let all : n / d * d + n % d ≡ n = div-add-mod' n d in
    let left : n % d < d = mod_below n d some in
    ⊎_elim
    (λ (l : MAX_PRICE < v). let more : suc MAX_PRICE * d ≤ n / d * d = mul-le (suc MAX_PRICE) d (n / d) d (omega arith) (omega arith) in
    lt-ltb MAX_PRICE v l ∙ sym (lt-ltb (MAX_PRICE * d) n (omega arith)))
    (λ (l : v ≤ MAX_PRICE). let less : (n / d + 1) * d ≤ MAX_PRICE * d = mul-le (n / d + 1) d MAX_PRICE d (omega arith) (omega arith) in
    le-ltb MAX_PRICE v l ∙ sym (le-ltb (MAX_PRICE * d) n (omega arith)))
    (cases_lt MAX_PRICE v)

pub refuse_above : (n d : ℕ) → ltb (MAX_PRICE * d) n ≡ true → TooLarge ≡ replacement_of Refuse n d
refuse_above n d e = rw e refl

pub refuse_whole : (n d v : ℕ) → 0 < d → ltb (MAX_PRICE * d) n ≡ false → v ≡ held (n / d) → eqb (n % d) 0 ≡ true → Exact v ≡ replacement_of Refuse n d
refuse_whole n d v some e ev w =
    let all : n / d * d + n % d ≡ n = div-add-mod' n d in
    let small : n ≤ MAX_PRICE * d = ltb-false (MAX_PRICE * d) n e in
    let whole : v ≡ n / d = ⊎_elim
    (λ (l : MAX_PRICE < n / d). absurd (let more : suc MAX_PRICE * d ≤ n / d * d = mul-le (suc MAX_PRICE) d (n / d) d (omega arith) (omega arith) in
    omega arith))
    (λ (l : n / d ≤ MAX_PRICE). omega arith)
    (cases_lt MAX_PRICE (n / d)) in
    rw e (rw w (ap Exact whole))

pub refuse_fine : (n d : ℕ) → ltb (MAX_PRICE * d) n ≡ false → eqb (n % d) 0 ≡ false → TooFine ≡ replacement_of Refuse n d
refuse_fine n d e w = rw e (rw w refl)
