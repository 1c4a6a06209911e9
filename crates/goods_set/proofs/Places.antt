-- Where a good is in a rising list, or where it goes: what a binary search and a partition point say.
use Rattle.goods_set.proofs.Common.{rules, ◌≡◌, ℕ, zero, suc, ◌+◌, ◌<◌, ◌≤◌, true, false, eqb, ltb, List, [], ◌∷◌, length, get_or, refl, sym, ap, ◌∙◌, arith}
use Rattle.goods_set.proofs.Common.{MatchResult, Bor, Result, Some, None, or_left, or_right, or_from, eq-eqb, ne_eqb, ltb-true, ltb-false, lt-ltb, le-ltb}
use Rattle.goods_set.proofs.Common.{le-leb, lt-leb, searched, insert, slice_get, IsBinarySearchResult, IsPartitionPoint, IsPartitionedBy, option_copied}
use Rattle.goods_set.proofs.Common.{IsItemAt, slice_get-get_or, slice_get_past, AreAbove, IsRising, has_good, with_good, good_from, Option, nat_cmp}

AreAbove-get_or : (x : ℕ) (xs : List ℕ) (k d : ℕ) → AreAbove x xs → k < length xs → x < get_or xs k d
AreAbove-get_or x [] k d a l = absurd (omega arith)
AreAbove-get_or x (y ∷ ys) zero d a l = a.0
AreAbove-get_or x (y ∷ ys) (suc k) d a l = AreAbove-get_or x ys k d a.1 (omega arith)

pub rising_get_or : (xs : List ℕ) (i j d : ℕ) → IsRising xs → i ≤ j → j < length xs → get_or xs i d ≤ get_or xs j d
rising_get_or [] i j d r l k = absurd (omega arith)
rising_get_or (x ∷ xs) zero zero d r l k = omega arith
rising_get_or (x ∷ xs) zero (suc j) d r l k = let a : x < get_or xs j d = AreAbove-get_or x xs j d r.0 (omega arith) in omega arith
rising_get_or (x ∷ xs) (suc i) zero d r l k = absurd (omega arith)
rising_get_or (x ∷ xs) (suc i) (suc j) d r l k = rising_get_or xs i j d r.1 (omega arith) (omega arith)

pub has_at : (xs : List ℕ) (i g : ℕ) → i < length xs → get_or xs i 0 ≡ g → has_good xs g ≡ true
has_at [] i g l e = absurd (omega arith)
has_at (x ∷ xs) zero g l e = or_left (eqb x g) (has_good xs g) (eq-eqb x g e)
has_at (x ∷ xs) (suc i) g l e = or_right (eqb x g) (has_good xs g) (has_at xs i g (omega arith) e)

-- a good that is between its neighbours at i is not there, and goes there
pub missing_at : (xs : List ℕ) (i g : ℕ) → i ≤ length xs → ((k : ℕ) → k < i → get_or xs k 0 < g) → ((k : ℕ) → i ≤ k → k < length xs → g < get_or xs k 0)
    → (has_good xs g ≡ false) × (insert xs i g ≡ with_good g xs)
missing_at [] zero g l a b = (refl, refl)
missing_at [] (suc i) g l a b = absurd (omega arith)
missing_at (x ∷ xs) zero g l a b =
    let h : g < x = b 0 (omega arith) (omega arith) in
    search (rules, or_from, ne_eqb, lt-ltb, (missing_at xs zero g (omega arith) (λ k m. absurd (omega arith)) (λ k m n. b (suc k) (omega arith) (omega arith))))
missing_at (x ∷ xs) (suc i) g l a b =
    let h : x < g = a 0 (omega arith) in
    search (rules, or_from, ne_eqb, le-ltb, (missing_at xs i g (omega arith) (λ k m. a (suc k) (omega arith)) (λ k m n. b (suc k) (omega arith) (omega arith))))

-- what a binary search for g answers of a rising list
pub placed : (xs : List ℕ) (g : ℕ) (r : Result ℕ ℕ) → IsRising xs → IsBinarySearchResult (λ y. nat_cmp y g) xs r
    → MatchResult r (λ i. has_good xs g ≡ true) (λ i. (i ≤ length xs) × (has_good xs g ≡ false) × (insert xs i g ≡ with_good g xs))
placed xs g r s h = search (rules, searched, rising_get_or, has_at, missing_at)

-- a rising list is parted by the goods below a bound
pub parted : (xs : List ℕ) (g : ℕ) → IsRising xs → IsPartitionedBy (λ y. ltb y g) xs
parted xs g r i j d l k h = search (rules, rising_get_or, ltb-true, lt-ltb)

-- the first good that is not below the bound is the next one
pub next_at : (xs : List ℕ) (g i : ℕ) → i ≤ length xs → IsPartitionPoint (λ y. ltb y g ≡ true) (λ y. ltb y g ≡ false) xs i → slice_get xs i ≡ good_from xs g
next_at [] g i l p = refl
next_at (x ∷ xs) g zero l p = let m : g ≤ x = ltb-false x g (p.1 0 0 (omega arith) (omega arith)) in rw (le-leb g x m) refl
next_at (x ∷ xs) g (suc i) l p =
    let m : x < g = ltb-true x g (p.0 0 0 (omega arith) (omega arith)) in
    rw (lt-leb g x m) (next_at xs g i (omega arith) (
      λ k d a b. p.0 (suc k) d (omega arith) (omega arith),
      λ k d a b. p.1 (suc k) d (omega arith) (omega arith),
    ))

-- what `get` lends, copied
pub got : (xs : List ℕ) (i : ℕ) (r : Option (Bor ℕ)) → IsItemAt xs i r → option_copied r ≡ slice_get xs i
got xs i None h = sym (slice_get_past xs i h.3)
got xs i (Some x) h = sym (slice_get-get_or xs i x.now h.3.0 ∙ ap Some (sym (h.3.1 x.now)))

-- ---- the good behind another

AreAbove-slice_get : (y : ℕ) (xs : List ℕ) (i x : ℕ) → AreAbove y xs → slice_get xs i ≡ Some x → y < x
AreAbove-slice_get y [] i x a e = absurd (cc)
AreAbove-slice_get y (z ∷ xs) zero x a e = let s : z ≡ x = cc in let l : y < z = a.0 in omega arith
AreAbove-slice_get y (z ∷ xs) (suc i) x a e = AreAbove-slice_get y xs i x a.1 e

first_above : (y : ℕ) (xs : List ℕ) → AreAbove y xs → good_from xs (y + 1) ≡ slice_get xs 0
first_above y [] a = refl
first_above y (z ∷ xs) a = let l : y < z = a.0 in rw (le-leb (y + 1) z (omega arith)) refl

pub first_good : (xs : List ℕ) → good_from xs 0 ≡ slice_get xs 0
first_good [] = refl
first_good (x ∷ xs) = rw (le-leb 0 x (omega arith)) refl

behind : (xs : List ℕ) (i x : ℕ) → IsRising xs → slice_get xs i ≡ Some x → good_from xs (x + 1) ≡ slice_get xs (suc i)
behind [] i x r e = absurd (cc)
behind (y ∷ xs) zero x r e = search (rules, lt-leb, first_above)
behind (y ∷ xs) (suc i) x r e = search (rules, AreAbove-slice_get, lt-leb, (behind xs i x r.1 e))

none_behind : (xs : List ℕ) (i : ℕ) → slice_get xs i ≡ None → slice_get xs (suc i) ≡ None
none_behind [] i e = refl
none_behind (x ∷ xs) zero e = absurd (cc)
none_behind (x ∷ xs) (suc i) e = none_behind xs i e

-- behind the good at an index comes the one at the next index
pub good_behind : (xs : List ℕ) (i x : ℕ) → IsRising xs → slice_get xs i ≡ Some x → good_from xs (x + 1) ≡ slice_get xs (i + 1)
good_behind xs i x r e = let next : suc i ≡ i + 1 = omega arith in behind xs i x r e ∙ ap (slice_get xs) next

pub no_good_behind : (xs : List ℕ) (i : ℕ) → slice_get xs i ≡ None → slice_get xs (i + 1) ≡ None
no_good_behind xs i e = let next : suc i ≡ i + 1 = omega arith in sym (ap (slice_get xs) next) ∙ none_behind xs i e
