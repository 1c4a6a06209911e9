-- Lists: the one element that passes a test, the first that does, lists one after another, and elements that differ.
use Rattle.analysis.proofs.Common.{rules, ◌≡◌, ℕ, zero, suc, ◌<◌, Bool, true, false, ⊎_elim, List, [], ◌∷◌, ◌++◌, length, get_or, refl, sym, ap, ◌∙◌, subst}
use Rattle.analysis.proofs.Common.{arith, All, AllPairs, Contains, slice_get, AllByRecursion, filter, flat_map, range_with_len, cases_Bool, cases_lt, in_range}
use Rattle.analysis.proofs.Common.{false_from_ne_true, flat_map-cons, recursion_from_All, Contains-append_left, Contains-append_right, Contains-append_cases}
use Rattle.analysis.proofs.Common.{slice_get-get_or, Contains-cons_cases, AllPairs-nil, AllPairs-head, AllPairs-tail, AllPairs-append, Contains-nil}
use Rattle.analysis.proofs.Common.{Contains-head, Contains-tail, All-from_Contains, filter-kept, filter-lost}

-- ---- numbers

pub all_numbers : (P : ℕ → Type 0) (n : ℕ) → ((j : ℕ) → j < n → P j) → AllByRecursion P (range_with_len 0 n)
all_numbers P n h = recursion_from_All P (range_with_len 0 n) (All-from_Contains P (range_with_len 0 n) (λ j c. h j (in_range n j c)))

-- ---- a test that one element passes

pub filter_none : {X : Type 0} (p : X → Bool) (xs : List X) (d : X) → ((i : ℕ) → i < length xs → p (get_or xs i d) ≡ false) → filter p xs ≡ []
filter_none p [] d h = refl
filter_none p (x ∷ xs) d h = filter-lost p x xs (h 0 (omega arith)) ∙ filter_none p xs d (λ i l. h (suc i) (omega arith))

pub filter_one : {X : Type 0} (p : X → Bool) (xs : List X) (d : X) (j : ℕ) → j < length xs → p (get_or xs j d) ≡ true
    → ((i : ℕ) → i < length xs → p (get_or xs i d) ≡ true → i ≡ j) → length (filter p xs) ≡ 1
filter_one p [] d j l t h = absurd (omega arith)
filter_one {X} p (x ∷ xs) d zero l t h =
    let rest = filter_none p xs d (λ i m. false_from_ne_true (p (get_or xs i d)) (λ e. let z : suc i ≡ zero = h (suc i) (omega arith) e in omega arith)) in
    ap (length {A = X}) (filter-kept p x xs t ∙ ap (λ (ys : List X). x ∷ ys) rest)
filter_one {X} p (x ∷ xs) d (suc j) l t h =
    ap (length {A = X}) (filter-lost p x xs (false_from_ne_true (p x) (λ e. let z : zero ≡ suc j = h zero (omega arith) e in omega arith)))
    ∙ filter_one p xs d j (omega arith) t (λ i m e. let z : suc i ≡ suc j = h (suc i) (omega arith) e in omega arith)

-- ---- the first element that passes a test

pub record IsFirst {X : Type 0} (p : X → Bool) (xs : List X) (d : X) (j : ℕ) : Type 0 where
  pub within : j < length xs
  pub passes : p (get_or xs j d) ≡ true
  pub none : (i : ℕ) → i < j → p (get_or xs i d) ≡ false

pub first_index : {X : Type 0} (p : X → Bool) (xs : List X) (d : X) (k : ℕ) → k < length xs → p (get_or xs k d) ≡ true → (j : ℕ) × IsFirst p xs d j
first_index p [] d k l t = absurd (omega arith)
first_index {X} p (x ∷ xs) d k l t = ⊎_elim (λ (e : p x ≡ true). (0, record { within = omega arith; passes = e; none = λ i m. absurd (omega arith) }))
    (λ (e : p x ≡ false). behind e (first_index p xs d) k l t) (cases_Bool (p x))
  where
    before : p x ≡ false → (j : ℕ) → ((i : ℕ) → i < j → p (get_or xs i d) ≡ false) → (i : ℕ) → i < suc j → p (get_or (x ∷ xs) i d) ≡ false
    before e j h zero m = e
    before e j h (suc i) m = h i (omega arith)

    behind : p x ≡ false → ((k : ℕ) → k < length xs → p (get_or xs k d) ≡ true → (j : ℕ) × IsFirst p xs d j) → (k : ℕ) → k < length (x ∷ xs)
        → p (get_or (x ∷ xs) k d) ≡ true → (j : ℕ) × IsFirst p (x ∷ xs) d j
    behind e first zero l t = absurd (cc)
    behind e first (suc k) l t = let r = first k (omega arith) t in
        (suc r.0, record { within = omega arith; passes = r.1.passes; none = before e r.0 r.1.none })

-- ---- lists one after another

pub in_flat_map : {X Y : Type 0} (g : X → List Y) (xs : List X) (x : X) (y : Y) → Contains xs x → Contains (g x) y → Contains (flat_map g xs) y
in_flat_map g [] x y c e = absurd (Contains-nil x c)
in_flat_map {X} {Y} g (z ∷ zs) x y c e = subst (λ (ys : List Y). Contains ys y) (sym (flat_map-cons g z zs))
    (⊎_elim (search (rules, Contains-append_left))
    (λ (d : Contains zs x). Contains-append_right (g z) (flat_map g zs) y (in_flat_map g zs x y d e)) (Contains-cons_cases z zs x c))

pub from_flat_map : {X Y : Type 0} (g : X → List Y) (xs : List X) (y : Y) → Contains (flat_map g xs) y → (x : X) × Contains xs x × Contains (g x) y
from_flat_map g [] y c = absurd (Contains-nil y c)
from_flat_map {X} {Y} g (x ∷ xs) y c = ⊎_elim (λ (d : Contains (g x) y). (x, Contains-head x xs, d))
    (λ (d : Contains (flat_map g xs) y). let r = from_flat_map g xs y d in (r.0, Contains-tail x xs r.0 r.1, r.2))
    (search (rules, Contains-append_cases))

-- ---- elements that differ

abbrev pub AreDifferent : {X : Type 0} → List X → Type 0
AreDifferent xs = AllPairs (λ x y. x ≡ y → ⊥) xs

pub different_indices : {X : Type 0} (xs : List X) → AreDifferent xs → (k l : ℕ) → k < length xs → l < length xs → slice_get xs k ≡ slice_get xs l → k ≡ l
different_indices {X} [] h k l m n e = absurd (omega arith)
different_indices {X} (x ∷ xs) h k l m n e = let same = sym (slice_get-get_or (x ∷ xs) k x m) ∙ e ∙ slice_get-get_or (x ∷ xs) l x n in search (rules, cases_lt)

pub different_append : {X : Type 0} (xs ys : List X) → AreDifferent xs → AreDifferent ys → ((x : X) → Contains xs x → Contains ys x → ⊥)
    → AreDifferent (xs ++ ys)
different_append {X} xs ys h k n =
    AllPairs-append (λ x y. x ≡ y → ⊥) xs ys h k (All-from_Contains (λ x. All (λ y. x ≡ y → ⊥) ys) xs
    (λ x c. All-from_Contains (λ y. x ≡ y → ⊥) ys (λ y d e. n x c (subst (λ (z : X). Contains ys z) (sym e) d))))

pub different_flat_map : {X Y : Type 0} (g : X → List Y) (key : Y → X) (xs : List X) → AreDifferent xs → ((x : X) → Contains xs x → AreDifferent (g x))
    → ((x : X) (y : Y) → Contains (g x) y → key y ≡ x) → AreDifferent (flat_map g xs)
different_flat_map g key [] h each of = AllPairs-nil (λ x y. x ≡ y → ⊥)
different_flat_map {X} {Y} g key (x ∷ xs) h each of =
    subst (λ (ys : List Y). AreDifferent ys) (sym (flat_map-cons g x xs))
    (different_append (g x) (flat_map g xs) (each x (Contains-head x xs))
    (different_flat_map g key xs (AllPairs-tail (λ a b. a ≡ b → ⊥) x xs h) (λ z c. each z (Contains-tail x xs z c)) of)
    (λ y c d. let r = from_flat_map g xs y d in
    All-from_head r.0 r.1 (sym (of x y c) ∙ of r.0 y r.2)))
  where
    All-from_head : (z : X) → Contains xs z → x ≡ z → ⊥
    All-from_head z c e = let q = AllPairs-head (λ a b. a ≡ b → ⊥) x xs h c.0 z c.1 in q (e ∙ sym c.2)
