-- Lists of numbers in which none is twice. The idea: how often a number is in a list is the same however the list is
-- ordered, and in a list without repeats it is at most 1; so such a list rises once it is sorted.
use Rattle.cats_text.proofs.Common.{◌≡◌, ◌≢◌, ℕ, zero, suc, ◌+◌, ◌<◌, ◌≤◌, cond, eqb, List, [], ◌∷◌, length, get_or, refl, sym, subst, arith, eqb-true, eq-eqb}
use Rattle.cats_text.proofs.Common.{ne_eqb, sum_by-IsPermutation, sum_by-cons, sum_by, AllByRecursion, IsPermutation, IsNonDecreasing, AreAbove, IsRising}
use Rattle.cats_text.proofs.Common.{AreDistinct, common_steps}

abbrev one_at : ℕ → ℕ → ℕ
one_at g x = cond (eqb x g) 1 0

-- how often g is in the list
abbrev pub times : List ℕ → ℕ → ℕ
times xs g = sum_by (one_at g) xs

times-cons : (x : ℕ) (xs : List ℕ) (g : ℕ) → times (x ∷ xs) g ≡ one_at g x + times xs g
times-cons x xs g = sum_by-cons (one_at g) x xs

one_at-same : (x : ℕ) → one_at x x ≡ 1
one_at-same x = rw (eq-eqb x x refl) refl

one_at-other : (x g : ℕ) → x ≢ g → one_at g x ≡ 0
one_at-other x g ne = rw (ne_eqb x g ne) refl

times-none : (x : ℕ) (xs : List ℕ) → AllByRecursion (λ y. x ≢ y) xs → times xs x ≡ 0
times-none x [] h = refl
times-none x (y ∷ ys) h = grind (arith, common_steps, one_at-other, times-cons, (times-none x ys h.1))

pub times-AreDistinct : (xs : List ℕ) → AreDistinct xs → (g : ℕ) → times xs g ≤ 1
times-AreDistinct [] d g = omega arith
times-AreDistinct (x ∷ xs) d g = grind (arith, common_steps, eqb-true, times-cons, times-none, (times-AreDistinct xs d.1 g))

times-at : (xs : List ℕ) (i : ℕ) → i < length xs → 0 < times xs (get_or xs i 0)
times-at [] i l = absurd (let no : i < 0 = l in omega arith)
times-at (x ∷ xs) zero l = let one : one_at x x ≡ 1 = one_at-same x in omega (arith, times-cons x xs x)
times-at (x ∷ xs) (suc i) l = let there : 0 < times xs (get_or xs i 0) = times-at xs i (omega arith) in omega (arith, times-cons x xs (get_or xs i 0))

above_from_places : (x : ℕ) (xs : List ℕ) → ((i : ℕ) → i < length xs → x < get_or xs i 0) → AreAbove x xs
above_from_places x [] h = tt
above_from_places x (y ∷ ys) h = (h 0 (omega arith), above_from_places x ys (λ i l. h (suc i) (omega arith)))

-- in order and none twice
pub rising_from_order : (xs : List ℕ) → IsNonDecreasing xs → ((g : ℕ) → times xs g ≤ 1) → IsRising xs
rising_from_order [] order once = tt
rising_from_order (x ∷ xs) order once =
    let tail : IsNonDecreasing xs = λ i j d l h. order (suc i) (suc j) d (omega arith) (omega arith) in (
      above_from_places x xs (λ i l. let le : x ≤ get_or xs i 0 = order 0 (suc i) 0 (omega arith) (omega arith) in
          let head : one_at x x ≡ 1 = one_at-same x in
          let first : one_at x x + times xs x ≤ 1 = rw (times-cons x xs x) at (once x) in
          let there : 0 < times xs (get_or xs i 0) = times-at xs i l in
          let ne : x ≢ get_or xs i 0 = λ e. let again : 0 < times xs x = subst (λ n. 0 < times xs n) (sym e) there in omega arith in
          omega arith),
      rising_from_order xs tail (λ g. let all : one_at g x + times xs g ≤ 1 = rw (times-cons x xs g) at (once g) in omega arith),
    )

-- a list without repeats rises once it is put in order
pub rising_from_sort : (xs ys : List ℕ) → AreDistinct xs → IsPermutation xs ys → IsNonDecreasing ys → IsRising ys
rising_from_sort xs ys distinct moved order = rising_from_order ys order (λ g.
    let same : times ys g ≡ times xs g = sum_by-IsPermutation (one_at g) xs ys moved in
    let one : times xs g ≤ 1 = times-AreDistinct xs distinct g in omega arith)

apart_from_above : (x : ℕ) (xs : List ℕ) → AreAbove x xs → AllByRecursion (λ y. x ≢ y) xs
apart_from_above x [] h = tt
apart_from_above x (y ∷ ys) h = (λ e. let less : x < y = h.0 in let same : x ≡ y = e in omega arith, apart_from_above x ys h.1)

-- numbers that rise are there once
pub distinct_from_rising : (xs : List ℕ) → IsRising xs → AreDistinct xs
distinct_from_rising [] h = tt
distinct_from_rising (x ∷ xs) h = (apart_from_above x xs h.0, distinct_from_rising xs h.1)
