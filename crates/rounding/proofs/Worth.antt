-- What digits are worth: numbers that are held, cut and raised.
use Rattle.rounding.proofs.Common.{rules, ◌≡◌, ℕ, suc, ◌+◌, ◌-◌, ◌*◌, ◌/◌, ◌%◌, ◌^◌, ◌<◌, ◌≤◌, min, true, leb, [], ◌∷◌, ◌++◌, length, take, drop, ⊎_elim, refl}
use Rattle.rounding.proofs.Common.{sym, ap, ◌∙◌, subst, ◌⊎◌, inl, inr, arith, length-append, append_assoc, fold, and_parts, eqb-true, eqb-false, leb-true, Word}
use Rattle.rounding.proofs.Common.{leb-false, cases_lt, take-append-drop, take_rest, length-drop, append-nil, fold-append, list_all-append, mul-le, div-mul-add}
use Rattle.rounding.proofs.Common.{mod-mul-add, take-length, drop-length, mul-le-mul_left, pow-succ', one-le-pow, pow-suc, is_digit, digits_alone, number_of}
use Rattle.rounding.proofs.Common.{whole_part, places, significand, exponent, digits, is_decimal, top, bottom, MAX_PRICE, rest_with, IsRest, Holds, shift_up}
use Rattle.rounding.proofs.Common.{shift_down, Value, Rest, Nothing, Zeros, BelowHalf, Half, AboveHalf, common_steps}
use Rattle.rounding.proofs.Spans.{mark_cut}

-- ---- what digits are worth

abbrev pub value : ℕ → Word → ℕ
value n w = fold (λ m b. 10 * m + (b - 48)) n w

pub digit_range : (b : ℕ) → is_digit b ≡ true → (48 ≤ b) × (b ≤ 57)
digit_range b h = let p : (leb 48 b ≡ true) × (leb b 57 ≡ true) = and_parts (leb 48 b) (leb b 57) h in (leb-true 48 b p.0, leb-true b 57 p.1)

one_digit : (power n d v : ℕ) → d ≤ 9 → v < (10 * n + d + 1) * power → v < (n + 1) * (10 * power)
one_digit power n d v l h = let factor : 10 * n + d + 1 ≤ 10 * n + 10 = omega arith in omega (arith, mul-le-mul_left power factor)

below_from : (n : ℕ) (w : Word) → digits_alone w ≡ true → value n w < (n + 1) * 10 ^ length w
below_from n [] h = omega arith
below_from n (b ∷ bs) h =
    let p : (is_digit b ≡ true) × (digits_alone bs ≡ true) = and_parts (is_digit b) (digits_alone bs) h in
    let range : (48 ≤ b) × (b ≤ 57) = digit_range b p.0 in
    let small : b ≤ 57 = range.1 in
    let rest : value (10 * n + (b - 48)) bs < (10 * n + (b - 48) + 1) * 10 ^ length bs = below_from (10 * n + (b - 48)) bs p.1 in
    let power : 10 ^ (suc (length bs)) ≡ 10 * 10 ^ length bs = pow-succ' 10 (length bs) in
    subst (λ k. value n (b ∷ bs) < (n + 1) * k) (sym power) (one_digit (10 ^ length bs) n (b - 48) (value n (b ∷ bs)) (omega arith) rest)

pub value_below : (w : Word) → digits_alone w ≡ true → value 0 w < 10 ^ length w
value_below w h = omega (arith, below_from 0 w h)

regroup : (power n d v : ℕ) → (10 * n + d) * power + v ≡ n * (10 * power) + ((10 * 0 + d) * power + v)
regroup power n d v = omega arith

pub value_from : (n : ℕ) (w : Word) → value n w ≡ n * 10 ^ length w + value 0 w
value_from n [] = omega arith
value_from n (b ∷ bs) =
    let power : 10 ^ (suc (length bs)) ≡ 10 * 10 ^ length bs = pow-succ' 10 (length bs) in
    let zero_part : (10 * 0 + (b - 48)) * 10 ^ length bs + value 0 bs ≡ value 0 (b ∷ bs) = sym (value_from (10 * 0 + (b - 48)) bs) in
    value_from (10 * n + (b - 48)) bs ∙ regroup (10 ^ length bs) n (b - 48) (value 0 bs)
    ∙ ap (λ k. k + ((10 * 0 + (b - 48)) * 10 ^ length bs + value 0 bs)) (ap (λ k. n * k) (sym power)) ∙ ap (λ k. n * 10 ^ (suc (length bs)) + k) zero_part

pub number_append : (xs ys : Word) → value 0 (xs ++ ys) ≡ value 0 xs * 10 ^ length ys + value 0 ys
number_append xs ys = fold-append (λ m b. 10 * m + (b - 48)) 0 xs ys ∙ value_from (value 0 xs) ys

-- ---- numbers that are held

pub hold_same : (bound u v : ℕ) (w : Word) → min bound u ≡ min bound v → min bound (value u w) ≡ min bound (value v w)
hold_same bound u v [] h = h
hold_same bound u v (b ∷ bs) h = hold_same bound (10 * u + (b - 48)) (10 * v + (b - 48)) bs (omega arith)

pub held_two : (bound m k : ℕ) (xs ys : Word) → m ≡ min bound (value 0 xs) → k ≡ min bound (value m ys) → k ≡ min bound (value 0 (xs ++ ys))
held_two bound m k xs ys em ek = grind (arith, common_steps, fold-append, hold_same)

-- ---- what is behind a cut

even_ten : (p : ℕ) → (10 * p) % 2 ≡ 0
even_ten p = omega arith

rest_step : (s : Rest) (x p b : ℕ) → is_digit b ≡ true → x < p → IsRest s x p → IsRest (rest_with s b) (10 * x + (b - 48)) (10 * p)
rest_step Nothing x p b h l r = grind (arith, common_steps, digit_range, eqb-false, eqb-true, even_ten, leb-false, leb-true)
rest_step Zeros x p b h l r = grind (arith, common_steps, digit_range, eqb-false, eqb-true, even_ten)
rest_step BelowHalf x p b h l r = grind (arith, common_steps, digit_range, even_ten)
rest_step Half x p b h l r = grind (arith, common_steps, digit_range, eqb-false, eqb-true)
rest_step AboveHalf x p b h l r = omega arith

pub rest_all : (s : Rest) (x p : ℕ) (w : Word) → digits_alone w ≡ true → x < p → IsRest s x p → IsRest (fold rest_with s w) (value x w) (p * 10 ^ length w)
rest_all s x p [] h l r = let one : p ≡ p * 1 = omega arith in subst (IsRest s x) one r
rest_all s x p (b ∷ bs) h l r =
    let q : (is_digit b ≡ true) × (digits_alone bs ≡ true) = and_parts (is_digit b) (digits_alone bs) h in
    let range : (48 ≤ b) × (b ≤ 57) = digit_range b q.0 in
    let high : b ≤ 57 = range.1 in
    let power : 10 ^ (suc (length bs)) ≡ 10 * 10 ^ length bs = pow-succ' 10 (length bs) in
    let same : (10 * p) * 10 ^ length bs ≡ p * 10 ^ (suc (length bs)) = turned p (10 ^ length bs) ∙ ap (λ k. p * k) (sym power) in
    subst (IsRest (fold rest_with (rest_with s b) bs) (value (10 * x + (b - 48)) bs)) same
    (rest_all (rest_with s b) (10 * x + (b - 48)) (10 * p) bs q.1 (omega arith) (rest_step s x p b q.0 l r))
  where
    turned : (a k : ℕ) → (10 * a) * k ≡ a * (10 * k)
    turned a k = omega arith

-- ---- a number that is cut

digits_behind : (xs ys : Word) → digits_alone (xs ++ ys) ≡ true → digits_alone ys ≡ true
digits_behind xs ys h = grind (arith, common_steps, and_parts, list_all-append)

pub cut_leading : (xs ys : Word) (m : ℕ) (r : Rest) → digits_alone (xs ++ ys) ≡ true → m ≡ min (suc MAX_PRICE) (value 0 xs)
    → r ≡ fold rest_with Nothing ys → Holds (record { whole = m; rest = r }) (number_of (xs ++ ys)) (10 ^ length ys)
cut_leading xs ys m r h em er =
    let behind : digits_alone ys ≡ true = digits_behind xs ys h in
    let small : value 0 ys < 10 ^ length ys = value_below ys behind in
    let is : number_of (xs ++ ys) ≡ value 0 xs * 10 ^ length ys + value 0 ys = number_append xs ys in
    let part : number_of (xs ++ ys) / 10 ^ length ys ≡ value 0 xs = ap (λ n. n / 10 ^ length ys) is
    ∙ div-mul-add (value 0 xs) (10 ^ length ys) (value 0 ys) small in
    let left : number_of (xs ++ ys) % 10 ^ length ys ≡ value 0 ys = ap (λ n. n % 10 ^ length ys) is
    ∙ mod-mul-add (value 0 xs) (10 ^ length ys) (value 0 ys) small in
    let one : 1 * 10 ^ length ys ≡ 10 ^ length ys = omega arith in
    record {
      whole = em ∙ ap (min (suc MAX_PRICE)) (sym part);
      bottom = omega arith;
      rest = subst (λ (s : Rest). IsRest s (number_of (xs ++ ys) % 10 ^ length ys) (10 ^ length ys)) (sym er)
          (subst (λ k. IsRest (fold rest_with Nothing ys) k (10 ^ length ys)) (sym left)
          (subst (IsRest (fold rest_with Nothing ys) (value 0 ys)) one (rest_all Nothing 0 1 ys behind (omega arith) (refl, refl))));
    }

pub cut_far : (ds : Word) (r : Rest) → digits_alone ds ≡ true → r ≡ fold rest_with Zeros ds
    → Holds (record { whole = 0; rest = r }) (number_of ds) (10 ^ suc (length ds))
cut_far ds r h er =
    let small : value 0 ds < 10 ^ length ds = value_below ds h in
    let power : 10 ^ (suc (length ds)) ≡ 10 * 10 ^ length ds = pow-succ' 10 (length ds) in
    let sum : value 0 ds ≡ 0 * 10 ^ suc (length ds) + value 0 ds = omega arith in
    let part : number_of ds / 10 ^ suc (length ds) ≡ 0 = ap (λ n. n / 10 ^ suc (length ds)) sum
    ∙ div-mul-add 0 (10 ^ suc (length ds)) (value 0 ds) (omega arith) in
    let left : number_of ds % 10 ^ suc (length ds) ≡ value 0 ds = ap (λ n. n % 10 ^ suc (length ds)) sum
    ∙ mod-mul-add 0 (10 ^ suc (length ds)) (value 0 ds) (omega arith) in
    record {
      whole = ap (min (suc MAX_PRICE)) (sym part);
      bottom = omega arith;
      rest = subst (λ (s : Rest). IsRest s (number_of ds % 10 ^ suc (length ds)) (10 ^ suc (length ds))) (sym er)
          (subst (λ k. IsRest (fold rest_with Zeros ds) k (10 ^ suc (length ds))) (sym left)
          (subst (IsRest (fold rest_with Zeros ds) (value 0 ds)) (sym power) (rest_all Zeros 0 10 ds h (omega arith) (refl, refl))));
    }

-- ---- two runs of digits, cut at one place

split_two : (a b : Word) (i j : ℕ) → (i ≡ length a) ⊎ (j ≡ 0) → (take i a ++ take j b) ++ (drop i a ++ drop j b) ≡ a ++ b
split_two a b i j (inl e) = search (rules, take-length, drop-length, append_assoc, take-append-drop)
split_two a b i j (inr e) =
    ap (λ n. (take i a ++ take n b) ++ (drop i a ++ drop n b)) e ∙ ap (λ (t : Word). t ++ (drop i a ++ b)) (append-nil (take i a))
    ∙ sym (append_assoc (take i a) (drop i a) b) ∙ ap (λ (t : Word). t ++ b) (take-append-drop i a)

pub cut_two : (a b : Word) (power i j leading whole : ℕ) (behind rest : Rest) → digits_alone (a ++ b) ≡ true
    → power ≤ length a + length b → i ≡ min (length a + length b - power) (length a) → j ≡ length a + length b - power - i
    → leading ≡ min (suc MAX_PRICE) (value 0 (take i a)) → whole ≡ min (suc MAX_PRICE) (value leading (take j b))
    → behind ≡ fold rest_with Nothing (take (length a - i) (drop i a)) → rest ≡ fold rest_with behind (take (length b - j) (drop j b))
    → Holds (record { whole = whole; rest = rest }) (number_of (a ++ b)) (10 ^ power)
cut_two a b power i j leading whole behind rest h le ei ej ef ew eb er =
    let which : (i ≡ length a) ⊎ (j ≡ 0) = either (length a) (length a + length b - power) i j ei ej in
    let is : (take i a ++ take j b) ++ (drop i a ++ drop j b) ≡ a ++ b = split_two a b i j which in
    let size : length (drop i a ++ drop j b) ≡ power = omega (arith, length-append (drop i a) (drop j b), length-drop i a, length-drop j b) in
    let behind_is : behind ≡ fold rest_with Nothing (drop i a) = eb ∙ ap (fold rest_with Nothing) (take_rest a i) in
    let rest_is : rest ≡ fold rest_with Nothing (drop i a ++ drop j b) = er ∙ ap (fold rest_with behind) (take_rest b j)
    ∙ ap (λ (s : Rest). fold rest_with s (drop j b)) behind_is ∙ sym (fold-append rest_with Nothing (drop i a) (drop j b)) in
    subst (λ k. Holds (record { whole = whole; rest = rest }) (number_of (a ++ b)) (10 ^ k)) size
    (subst (λ (t : Word). Holds (record { whole = whole; rest = rest }) (number_of t) (10 ^ length (drop i a ++ drop j b))) is
    (cut_leading (take i a ++ take j b) (drop i a ++ drop j b) whole rest (ap digits_alone is ∙ h)
    (held_two (suc MAX_PRICE) leading whole (take i a) (take j b) ef ew) rest_is))
  where
    either : (la kept i j : ℕ) → i ≡ min kept la → j ≡ kept - i → (i ≡ la) ⊎ (j ≡ 0)
    either la kept i j ei ej = ⊎_elim (λ (l : la < kept). inl (omega arith)) (λ (l : kept ≤ la). inr (omega arith)) (cases_lt la kept)

pub cut_none : (a b : Word) (power : ℕ) (behind rest : Rest) → digits_alone (a ++ b) ≡ true → length a + length b < power
    → power ≤ suc (length a + length b) → behind ≡ fold rest_with Zeros a → rest ≡ fold rest_with behind b
    → Holds (record { whole = 0; rest = rest }) (number_of (a ++ b)) (10 ^ power)
cut_none a b power behind rest h lt le eb er =
    let size : suc (length (a ++ b)) ≡ power = omega (arith, length-append a b) in
    subst (λ k. Holds (record { whole = 0; rest = rest }) (number_of (a ++ b)) (10 ^ k)) size
    (cut_far (a ++ b) rest h (er ∙ ap (λ (s : Rest). fold rest_with s b) eb ∙ sym (fold-append rest_with Zeros a b)))

-- ---- a number that is raised

held_times : (bound m q : ℕ) → 1 ≤ q → min bound (min bound m * q) ≡ min bound (m * q)
held_times bound m q h = grind (arith, common_steps, mul-le)

pub raised_once : (m k held : ℕ) → held ≡ min (suc MAX_PRICE) (m * 10 ^ k) → min (suc MAX_PRICE) (held * 10) ≡ min (suc MAX_PRICE) (m * 10 ^ (k + 1))
raised_once m k held e = ap (λ n. min (suc MAX_PRICE) (n * 10)) e ∙ held_times (suc MAX_PRICE) (m * 10 ^ k) 10 (omega arith)
    ∙ ap (min (suc MAX_PRICE)) (search (rules, grouped, pow-suc, one))
  where
    grouped : (a b : ℕ) → a * b * 10 ≡ a * (b * 10)
    grouped a b = omega arith

    one : suc k ≡ k + 1
    one = omega arith

pub raised_value : (a b : Word) (up leading number whole : ℕ) → leading ≡ min (suc MAX_PRICE) (value 0 a) → number ≡ min (suc MAX_PRICE) (value leading b)
    → whole ≡ min (suc MAX_PRICE) (number * 10 ^ up) → Holds (record { whole = whole; rest = Nothing }) (number_of (a ++ b) * 10 ^ up) 1
raised_value a b up leading number whole ef en ew =
    let is : number ≡ min (suc MAX_PRICE) (value 0 (a ++ b)) = held_two (suc MAX_PRICE) leading number a b ef en in
    search (rules, div-one, held_times, one-le-pow, mod-one)
  where
    div-one : (n : ℕ) → n / 1 ≡ n
    div-one n = omega arith

    mod-one : (n : ℕ) → n % 1 ≡ 0
    mod-one n = omega arith

-- the same value, of an equal fraction
pub held_of : (v : Value) (n m d e : ℕ) → n ≡ m → d ≡ e → Holds v n d → Holds v m e
held_of v n m d e p q h = subst (λ k. Holds v m k) q (subst (λ k. Holds v k d) p h)

-- ---- the value of a word

pub sizes : (w : Word) → length (whole_part w) + length (places w) ≤ length w
sizes [] = omega arith
sizes (b ∷ bs) = grind (arith, common_steps, (sizes bs))

pub sizes_in : (w s a b : Word) → s ≡ significand w → a ≡ whole_part s → b ≡ places s → length a + length b ≤ length w
sizes_in w s a b es ea eb = omega (arith, ap length ea, ap length eb, sizes s, ap length es, (mark_cut w).within)

digits_are : (w s a b : Word) → s ≡ significand w → a ≡ whole_part s → b ≡ places s → a ++ b ≡ digits w
digits_are w s a b es ea eb = ap (λ (t : Word). t ++ b) (ea ∙ ap whole_part es) ∙ ap (λ (t : Word). whole_part (significand w) ++ t) (eb ∙ ap places es)

pub decimal_digits : (w s a b : Word) → is_decimal w ≡ true → s ≡ significand w → a ≡ whole_part s → b ≡ places s → digits_alone (a ++ b) ≡ true
decimal_digits w s a b h es ea eb = grind (arith, common_steps, and_parts, digits_are)

-- the parts of a word and its powers of ten, as the code has them
pub record IsSplit (tens : ℕ) (w s a b x : Word) (up down : ℕ) : Type 0 where
  pub significand_is : s ≡ significand w
  pub whole_is : a ≡ whole_part s
  pub places_are : b ≡ places s
  pub exponent_is : x ≡ exponent w
  pub up_is : up ≡ min 19 (shift_up tens x (length b))
  pub down_is : down ≡ min (suc (length a + length b)) (shift_down tens x (length b))

places_in : (w s b : Word) → s ≡ significand w → b ≡ places s → length b ≡ length (places (significand w))
places_in w s b es eb = ap length (eb ∙ ap places es)

bottom_is : (tens : ℕ) (w s a b x : Word) (up down : ℕ) → IsSplit tens w s a b x up down → 10 ^ down ≡ bottom tens w
bottom_is tens w s a b x up down h = grind (arith, common_steps, digits_are, places_in)

top_is : (tens : ℕ) (w s a b x : Word) (up down : ℕ) → IsSplit tens w s a b x up down → number_of (a ++ b) * 10 ^ up ≡ top tens w
top_is tens w s a b x up down h = search (rules, digits_are, places_in)

pub cut_in : (tens : ℕ) (w s a b x : Word) (up down : ℕ) (v : Value) → IsSplit tens w s a b x up down → 0 < down → Holds v (number_of (a ++ b)) (10 ^ down)
    → Holds v (top tens w) (bottom tens w)
cut_in tens w s a b x up down v h some held =
    let none : up ≡ 0 = search (rules, no_up) in
    search (rules, once, held_of, top_is, bottom_is, none)
  where
    no_up : (size up down u d p q : ℕ) → u ≡ p - q → d ≡ q - p → up ≡ min 19 u → down ≡ min (suc size) d → 0 < down → up ≡ 0
    no_up size up down u d p q eu ed e f some = omega arith

    once : (n : ℕ) → n * 10 ^ 0 ≡ n
    once n = omega arith

pub raised_in : (tens : ℕ) (w s a b x : Word) (up down leading number whole : ℕ) → IsSplit tens w s a b x up down → down ≤ 0
    → leading ≡ min (suc MAX_PRICE) (value 0 a) → number ≡ min (suc MAX_PRICE) (value leading b) → whole ≡ min (suc MAX_PRICE) (number * 10 ^ up)
    → Holds (record { whole = whole; rest = Nothing }) (top tens w) (bottom tens w)
raised_in tens w s a b x up down leading number whole h none ef en ew = grind (arith, common_steps, bottom_is, held_of, raised_value, top_is)
