-- Rising lists: one more number behind, the numbers at places, and a list put in order, which is the one rising list of its numbers.
use Rattle.cats_text.proofs.Common.{rules, ◌≡◌, ℕ, ◌<◌, ◌≤◌, true, false, ◌||◌, eqb, ⊎_elim, List, [], ◌∷◌, ◌++◌, ◌-◌, zero, suc, length, take, get_or, refl}
use Rattle.cats_text.proofs.Common.{ap, ◌∙◌, arith, both_ways, ne_eqb, AreAbove, IsRising, has_good, has_head, has_tail, has_cases, has_above, same_from_has}
use Rattle.cats_text.proofs.Common.{has-with_good, IsRising-with_good, rising_of, common_steps}

-- ---- one more number behind

above_push : (x : ℕ) (xs : List ℕ) (g : ℕ) → AreAbove x xs → x < g → AreAbove x (xs ++ g ∷ [])
above_push x [] g a l = (l, tt)
above_push x (y ∷ ys) g a l = (a.0, above_push x ys g a.1 l)

pub IsRising-push : (xs : List ℕ) (g : ℕ) → IsRising xs → ((k : ℕ) → has_good xs k ≡ true → k < g) → IsRising (xs ++ g ∷ [])
IsRising-push [] g r h = (tt, tt)
IsRising-push (x ∷ xs) g r h = (above_push x xs g r.0 (h x (has_head x xs)), IsRising-push xs g r.1 (λ k m. h k (has_tail x xs k m)))

pub has_at : (xs : List ℕ) (i d : ℕ) → i < length xs → has_good xs (get_or xs i d) ≡ true
has_at [] i d l = absurd (let none : i < 0 = l in omega arith)
has_at (x ∷ xs) zero d l = has_head x xs
has_at (x ∷ xs) (suc i) d l = has_tail x xs (get_or xs i d) (has_at xs i d (omega arith))

-- none is before itself
pub rising_new : (xs : List ℕ) (i d : ℕ) → IsRising xs → i < length xs → has_good (take i xs) (get_or xs i d) ≡ false
rising_new [] i d r l = absurd (let none : i < 0 = l in omega arith)
rising_new (x ∷ xs) zero d r l = refl
rising_new (x ∷ xs) (suc i) d r l = grind (arith, common_steps, has_above, has_at, ne_eqb, (rising_new xs i d r.1))

-- the last number of a rising list is the greatest
pub last_is_most : (xs : List ℕ) (d k : ℕ) → IsRising xs → has_good xs k ≡ true → k ≤ get_or xs (length xs - 1) d
last_is_most [] d k r h = absurd (both_ways false refl h)
last_is_most (x ∷ []) d k r h = ⊎_elim (λ (e : x ≡ k). omega arith) (λ (m : has_good [] k ≡ true). absurd (both_ways false refl m)) (has_cases x [] k h)
last_is_most (x ∷ (y ∷ ys)) d k r h =
    let place : length (x ∷ (y ∷ ys)) - 1 ≡ suc (length (y ∷ ys) - 1) = omega arith in
    let same : get_or (x ∷ (y ∷ ys)) (length (x ∷ (y ∷ ys)) - 1) d ≡ get_or (y ∷ ys) (length (y ∷ ys) - 1) d =
    ap (λ n. get_or (x ∷ (y ∷ ys)) n d) place in
    rw same (⊎_elim
    (λ (e : x ≡ k). let above : x < y = r.0.0 in let most : y ≤ get_or (y ∷ ys) (length (y ∷ ys) - 1) d = last_is_most (y ∷ ys) d y r.1 (has_head y ys) in
    omega arith)
    (λ (m : has_good (y ∷ ys) k ≡ true). last_is_most (y ∷ ys) d k r.1 m) (has_cases x (y ∷ ys) k h))

-- ---- a list put in order

pub has_rising_of : (xs : List ℕ) (n : ℕ) → has_good (rising_of xs) n ≡ has_good xs n
has_rising_of [] n = refl
has_rising_of (x ∷ xs) n = has-with_good x (rising_of xs) n ∙ ap (λ b. eqb x n || b) (has_rising_of xs n)

pub IsRising-of : (xs : List ℕ) → IsRising (rising_of xs)
IsRising-of [] = tt
IsRising-of (x ∷ xs) = IsRising-with_good x (rising_of xs) (IsRising-of xs)

-- the one rising list of these numbers
pub rising_of_is : (xs ys : List ℕ) → IsRising xs → ((g : ℕ) → has_good xs g ≡ has_good ys g) → xs ≡ rising_of ys
rising_of_is xs ys r h = search (rules, same_from_has, IsRising-of, has_rising_of)
