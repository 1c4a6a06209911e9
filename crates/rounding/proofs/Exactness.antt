-- Rounding over whole numbers: the nearest number, and powers of ten that are cut.
use Rattle.rounding.proofs.Common.{rules, ◌≡◌, ℕ, suc, ◌+◌, ◌-◌, ◌*◌, ◌/◌, ◌%◌, ◌^◌, ◌<◌, ◌≤◌, min, true, false, eqb, ltb, is_none, refl, sym, ap, ◌∙◌, arith}
use Rattle.rounding.proofs.Common.{◌⊎◌, if◌then◌else◌, inl, ⊎_elim, inr, lt-ltb, le-ltb, cases_lt, cases_order, eqb-true, eqb-false, ltb-true, ltb-false}
use Rattle.rounding.proofs.Common.{Word, ne_eqb, cases_Bool, mul-le, div-add-mod', mod_below, le-div, pow-le-pow_right, pow-succ', one-le-pow, mod-eq_of_lt}
use Rattle.rounding.proofs.Common.{top, div-eq_of_lt, mul-div_cancel, mul-mod_left, price_word, MAX_PRICE, is_decimal, bottom, exact_top, exact_bottom}
use Rattle.rounding.proofs.Common.{IsNearest, nearest, replacement, replacement_of, FinePrices, Round, Refuse, Replacement, Itself, Exact, Rounded, TooLarge}
use Rattle.rounding.proofs.Common.{TooFine, common_steps, PriceRule, is_kept, mantissa, raised, lowered, pow-add, and_parts, subst}
use Rattle.rounding.proofs.Worth.{value_below, decimal_digits}

-- ---- the nearest number

up : (n d q r : ℕ) → n ≡ q * d + r → r < d → d < 2 * r → IsNearest n d (q + 1)
up n d q r e l h = grind (arith, common_steps)

down : (n d q r : ℕ) → n ≡ q * d + r → 0 < d → 2 * r < d → IsNearest n d (q + 0)
down n d q r e some h = grind (arith, common_steps)

half_even : (n d q r : ℕ) → n ≡ q * d + r → 2 * r ≡ d → q % 2 ≡ 0 → IsNearest n d (q + 0)
half_even n d q r e h even = grind (arith, common_steps)

half_odd : (n d q r : ℕ) → n ≡ q * d + r → 2 * r ≡ d → q % 2 ≡ 1 → IsNearest n d (q + 1)
half_odd n d q r e h odd = grind (arith, common_steps)

half : (n d q r : ℕ) → n ≡ q * d + r → 2 * r ≡ d → IsNearest n d (q + q % 2)
half n d q r e h = grind (arith, common_steps, half_even, half_odd, mod_below)

pub nearest_is : (n d : ℕ) → 0 < d → IsNearest n d (nearest n d)
nearest_is n d some = grind (arith, common_steps, div-add-mod', down, eqb-false, eqb-true, half, ltb-false, ltb-true, mod_below, up)

-- of two nearest numbers none is less
none_less : (n d a b : ℕ) → 0 < d → IsNearest n d a → IsNearest n d b → a < b → ⊥
none_less n d a b some p q l = grind (arith, common_steps, mul-le)

pub nearest_only : (n d m : ℕ) → 0 < d → IsNearest n d m → m ≡ nearest n d
nearest_only n d m some h = ⊎_elim
    (λ (e : m ≡ nearest n d). e)
    (λ (o : (m < nearest n d) ⊎ (nearest n d < m)). absurd (⊎_elim
    (λ (l : m < nearest n d). none_less n d m (nearest n d) some h (nearest_is n d some) l)
    (λ (l : nearest n d < m). none_less n d (nearest n d) m some (nearest_is n d some) h l) o))
    (cases_order m (nearest n d))

-- ---- values that are large, small or whole

at_least : (a b : ℕ) → a ≤ a + b
at_least a b = omega arith

above : (fine : FinePrices) (n d : ℕ) → 0 < d → suc MAX_PRICE * d ≤ n → replacement_of fine n d ≡ TooLarge
above Round n d some l =
    let part : suc MAX_PRICE ≤ n / d = le-div (suc MAX_PRICE) n d some l in
    search (rules, at_least, lt-ltb)
above Refuse n d some l = let large : ltb (MAX_PRICE * d) n ≡ true = lt-ltb (MAX_PRICE * d) n (omega arith) in rw large refl

-- what a value below half of a millionth gives
tiny_of : FinePrices → ℕ → Replacement
tiny_of Round n = if eqb n 0 then Exact 0 else Rounded 0
tiny_of Refuse n = if eqb n 0 then Exact 0 else TooFine

tiny : (fine : FinePrices) (n d : ℕ) → 2 * n < d → replacement_of fine n d ≡ tiny_of fine n
unfolding tiny_of
tiny Round n d l = grind (arith, common_steps, div-eq_of_lt, le-ltb, mod-eq_of_lt, ne_eqb)
tiny Refuse n d l = grind (arith, common_steps, div-eq_of_lt, le-ltb, mod-eq_of_lt)

pub whole : (fine : FinePrices) (m d : ℕ) → 0 < d → m ≤ MAX_PRICE → replacement_of fine (m * d) d ≡ Exact m
whole Round m d some l = grind (arith, common_steps, le-ltb, mul-div_cancel, mul-mod_left, ne_eqb)
whole Refuse m d some l = grind (arith, common_steps, le-ltb, mul-div_cancel, mul-le, mul-mod_left)

-- ---- powers that are cut

power_more : (i j : ℕ) → i ≤ j → 10 ^ i ≤ 10 ^ j
power_more i j l = pow-le-pow_right {n = 10} (omega arith) {i = i} {j = j} l

nothing : (k : ℕ) → 0 * 10 ^ 19 ≡ 0 * k
nothing k = omega arith

cut_up : (fine : FinePrices) (n u : ℕ) → replacement_of fine (n * 10 ^ min 19 u) 1 ≡ replacement_of fine (n * 10 ^ u) 1
cut_up fine n u = grind (arith, common_steps, above, mul-le, nothing, power_more)

cut_down : (fine : FinePrices) (n size v : ℕ) → n < 10 ^ size → replacement_of fine n (10 ^ min (suc size) v) ≡ replacement_of fine n (10 ^ v)
cut_down fine n size v small = ⊎_elim (λ (l : suc size < v).
    let is : min (suc size) v ≡ suc size = omega arith in
    let power : 10 ^ suc size ≡ 10 * 10 ^ size = pow-succ' 10 size in
    let more : 10 ^ suc size ≤ 10 ^ v = power_more (suc size) v (omega arith) in
    ap (λ k. replacement_of fine n (10 ^ k)) is ∙ tiny fine n (10 ^ suc size) (omega arith) ∙ sym (tiny fine n (10 ^ v) (omega arith))) (search rules)
    (cases_lt (suc size) v)

-- one of the two powers is 1
cut_both : (fine : FinePrices) (n size a b : ℕ) → n < 10 ^ size
    → replacement_of fine (n * 10 ^ min 19 (a - b)) (10 ^ min (suc size) (b - a)) ≡ replacement_of fine (n * 10 ^ (a - b)) (10 ^ (b - a))
cut_both fine n size a b small = ⊎_elim (search (rules, once, cut_down)) (search (rules, cut_up)) (cases_lt a b)
  where
    once : (n : ℕ) → n * 10 ^ 0 ≡ n
    once n = omega arith

pub powers_cut : (fine : FinePrices) (tens : ℕ) (w : Word) → is_decimal w ≡ true
    → replacement_of fine (top tens w) (bottom tens w) ≡ replacement_of fine (exact_top tens w) (exact_bottom tens w)
powers_cut fine tens w h = grind (arith, common_steps, cut_both, decimal_digits, value_below)

-- ---- a value times a power of ten

powers_multiply : (a b t : ℕ) → 10 ^ ((a + t) - b) * 10 ^ (b - a) ≡ 10 ^ t * 10 ^ (a - b) * 10 ^ (b - (a + t))
powers_multiply a b t = sym (pow-add 10 ((a + t) - b) (b - a)) ∙ ap (λ k. 10 ^ k) sum ∙ pow-add 10 (t + (a - b)) (b - (a + t))
    ∙ ap (λ k. k * 10 ^ (b - (a + t))) (pow-add 10 t (a - b))
  where
    sum : ((a + t) - b) + (b - a) ≡ (t + (a - b)) + (b - (a + t))
    sum = omega arith

multiplied : (m a b t c d : ℕ) → a * b ≡ t * c * d → m * a * b ≡ t * (m * c) * d
multiplied m a b t c d e = let more : m * (a * b) ≡ m * (t * c * d) = ap (λ k. m * k) e in omega (arith, more)

more_raised : (tens : ℕ) (w : Word) → raised 0 w + tens ≡ raised tens w
more_raised tens w = omega arith

pub tens_multiply : (tens : ℕ) (w : Word) → exact_top tens w * exact_bottom 0 w ≡ 10 ^ tens * exact_top 0 w * exact_bottom tens w
tens_multiply tens w = subst
    (λ k. mantissa w * 10 ^ (k - lowered w) * exact_bottom 0 w ≡ 10 ^ tens * exact_top 0 w * 10 ^ (lowered w - k)) (more_raised tens w)
    (multiplied (mantissa w) (10 ^ ((raised 0 w + tens) - lowered w)) (exact_bottom 0 w) (10 ^ tens) (10 ^ (raised 0 w - lowered w))
    (10 ^ (lowered w - (raised 0 w + tens))) (powers_multiply (raised 0 w) (lowered w) tens))

-- ---- whole numbers of millionths

pub power_some : (k : ℕ) → 0 < 10 ^ k
power_some k = omega (arith, one-le-pow k 10 (omega arith))

cancelled : (a b k : ℕ) → 0 < k → a * k ≡ b * k → a ≡ b
cancelled a b k some e = sym (mul-div_cancel a some) ∙ ap (λ n. n / k) e ∙ mul-div_cancel b some

-- a decimal that is worth so many millionths, times the power of ten
whole_top : (tens : ℕ) (w : Word) (m : ℕ) → 10 ^ tens * exact_top 0 w ≡ m * exact_bottom 0 w → exact_top tens w ≡ m * exact_bottom tens w
whole_top tens w m e = cancelled (exact_top tens w) (m * exact_bottom tens w) (exact_bottom 0 w) (power_some (lowered w - raised 0 w))
    (tens_multiply tens w ∙ ap (λ k. k * exact_bottom tens w) e ∙ turned m (exact_bottom 0 w) (exact_bottom tens w))
  where
    turned : (a b c : ℕ) → a * b * c ≡ a * c * b
    turned a b c = omega arith

pub replaced : (rule : PriceRule) (w : Word) → is_kept rule w ≡ false → is_decimal w ≡ true
    → replacement rule w ≡ replacement_of rule.fine (exact_top rule.tens w) (exact_bottom rule.tens w)
replaced rule w k h = rw k (rw h (powers_cut rule.fine rule.tens w h))

-- what replaces so many millionths
whole_of : ℕ → Replacement
whole_of m = if ltb MAX_PRICE m then TooLarge else Exact m

whole_any : (fine : FinePrices) (m d : ℕ) → 0 < d → replacement_of fine (m * d) d ≡ whole_of m
unfolding whole_of
whole_any fine m d some = grind (arith, common_steps, above, cases_lt, le-ltb, lt-ltb, mul-le, whole)

pub whole_replaced : (rule : PriceRule) (w : Word) (m : ℕ) → is_kept rule w ≡ false → is_decimal w ≡ true
    → 10 ^ rule.tens * exact_top 0 w ≡ m * exact_bottom 0 w → replacement rule w ≡ (if ltb MAX_PRICE m then TooLarge else Exact m)
unfolding whole_of
whole_replaced rule w m k h e = replaced rule w k h ∙ ap (λ n. replacement_of rule.fine n (exact_bottom rule.tens w)) (whole_top rule.tens w m e)
    ∙ whole_any rule.fine m (exact_bottom rule.tens w) (power_some (lowered w - raised rule.tens w))

pub kept_itself : (rule : PriceRule) (w : Word) → is_kept rule w ≡ true → (rule.tens ≡ 0) × (replacement rule w ≡ Itself)
kept_itself rule w k = (eqb-true rule.tens 0 ((and_parts (eqb rule.tens 0) (is_none (price_word w)) k).0), rw k refl)

pub whole_kept : (rule : PriceRule) (w : Word) (m : ℕ) → is_decimal w ≡ true → 10 ^ rule.tens * exact_top 0 w ≡ m * exact_bottom 0 w → m ≤ MAX_PRICE
    → (replacement rule w ≡ Exact m) ⊎ ((rule.tens ≡ 0) × (replacement rule w ≡ Itself))
whole_kept rule w m h e l = ⊎_elim
    (λ (k : is_kept rule w ≡ true). inr (kept_itself rule w k))
    (λ (k : is_kept rule w ≡ false). inl (whole_replaced rule w m k h e ∙ ap (λ v. if v then TooLarge else Exact m) (le-ltb MAX_PRICE m l)))
    (cases_Bool (is_kept rule w))
