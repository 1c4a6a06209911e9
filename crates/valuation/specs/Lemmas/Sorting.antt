-- Lists in an order that answers Equal for equal elements alone. The idea: a list in order is determined by how often it has each
-- element, so a list is put in order in one way only, whichever way that is done.
use Rattle.std.proofs.Common.{rules, ◌≡◌, ℕ, zero, suc, ◌+◌, true, false, cond, List, [], ◌∷◌, get_or, refl, sym, ap, ◌∙◌, arith, Ordering, Less}
use Rattle.std.proofs.lemmas.Grind.{common_steps}
use Rattle.std.proofs.Common.{Equal, Greater}
use Rattle.std.specs.Prelude.{All, AllPairs, IsPermutation}
use Rattle.std.specs.List.{AllByRecursion, sum_by}
use Rattle.std.specs.List.Sorted.{IsSortedBy, IsSorted}
use Rattle.std.specs.Ordering.{is_eq, is_gt, is_lt, ordering_reverse}
use Rattle.std.specs.Cmp.{IsTotalOrder}
use Rattle.std.proofs.lemmas.Bool.{cases_Bool}
use Rattle.std.proofs.lemmas.Cmp.{upto, tied_itself, alike_right}
use Rattle.std.proofs.lemmas.List.Elements.{recursion_from_All, All-from_recursion}
use Rattle.std.proofs.lemmas.List.Sorted.{sorted_far, ranks_by, sum_by-IsPermutation, IsPermutation-refl, IsPermutation-sym, IsPermutation-trans}
use Rattle.std.proofs.lemmas.List.Sorted.{IsPermutation-cons, IsPermutation-middle}
use Rattle.std.proofs.lemmas.List.Sums.{sum_by-cons}
use Rattle.valuation.specs.Lemmas.Lists.{AllPairs-head, AllPairs-tail}
use Rattle.valuation.specs.Sorting.{insert_by, sort_by, count_of}

-- no element is above a later one
abbrev pub IsOrdered : {X : Type 0} → (X → X → Ordering) → List X → Type 0
IsOrdered cmp [] = Unit {0}
IsOrdered cmp (x ∷ xs) = AllByRecursion (λ y. is_gt (cmp x y) ≡ false) xs × IsOrdered cmp xs

-- ---- what is put in order has the same elements

pub sum_by-insert_by : {X : Type 0} (cmp : X → X → Ordering) (f : X → ℕ) (x : X) (xs : List X) → sum_by f (insert_by cmp x xs) ≡ f x + sum_by f xs
sum_by-insert_by cmp f x [] = sum_by-cons f x []
sum_by-insert_by {X} cmp f x (y ∷ ys) = grind (arith, common_steps, sum_by-cons, (sum_by-insert_by cmp f x ys))

pub sum_by-sort_by : {X : Type 0} (cmp : X → X → Ordering) (f : X → ℕ) (xs : List X) → sum_by f (sort_by cmp xs) ≡ sum_by f xs
sum_by-sort_by cmp f [] = refl
sum_by-sort_by cmp f (x ∷ xs) = omega (arith, sum_by-insert_by cmp f x (sort_by cmp xs), sum_by-sort_by cmp f xs, sum_by-cons f x xs)

each-insert_by : {X : Type 0} (cmp : X → X → Ordering) (P : X → Type 0) (x : X) (xs : List X) → P x → AllByRecursion P xs
    → AllByRecursion P (insert_by cmp x xs)
each-insert_by cmp P x [] p h = (p, tt)
each-insert_by cmp P x (y ∷ ys) p h = search (rules, (each-insert_by cmp P x ys p h.1))

each-sort_by : {X : Type 0} (cmp : X → X → Ordering) (P : X → Type 0) (xs : List X) → AllByRecursion P xs → AllByRecursion P (sort_by cmp xs)
each-sort_by cmp P [] h = tt
each-sort_by cmp P (x ∷ xs) h = each-insert_by cmp P x (sort_by cmp xs) h.0 (each-sort_by cmp P xs h.1)

pub All-sort_by : {X : Type 0} (cmp : X → X → Ordering) (P : X → Type 0) (xs : List X) → All P xs → All P (sort_by cmp xs)
All-sort_by cmp P xs h = All-from_recursion P (sort_by cmp xs) (each-sort_by cmp P xs (recursion_from_All P xs h))

-- ---- and is in order

not_above : (o : Ordering) → is_gt o ≡ true → is_gt (ordering_reverse o) ≡ false
not_above Less e = absurd (cc)
not_above Equal e = absurd (cc)
not_above Greater e = refl

not_above_back : (o : Ordering) → is_lt o ≡ false → is_gt (ordering_reverse o) ≡ false
not_above_back Less e = absurd (cc)
not_above_back Equal e = refl
not_above_back Greater e = refl

each_weaker : {X : Type 0} (P Q : X → Type 0) → ((x : X) → P x → Q x) → (xs : List X) → AllByRecursion P xs → AllByRecursion Q xs
each_weaker P Q f [] h = tt
each_weaker P Q f (x ∷ xs) h = (f x h.0, each_weaker P Q f xs h.1)

module _ {X : Type 0} (cmp : X → X → Ordering) (total : IsTotalOrder cmp) where
  ordered-insert_by : (x : X) (xs : List X) → IsOrdered cmp xs → IsOrdered cmp (insert_by cmp x xs)
  ordered-insert_by x [] h = (tt, tt)
  ordered-insert_by x (y ∷ ys) h = search (rules, not_above, each-insert_by, each_weaker, upto, cases_Bool, (ordered-insert_by x ys h.1))

  pub ordered-sort_by : (xs : List X) → IsOrdered cmp (sort_by cmp xs)
  ordered-sort_by [] = tt
  ordered-sort_by (x ∷ xs) = ordered-insert_by x (sort_by cmp xs) (ordered-sort_by xs)

  ordered_from_pairs : (xs : List X) → AllPairs (λ x y. is_gt (cmp x y) ≡ false) xs → IsOrdered cmp xs
  ordered_from_pairs [] h = tt
  ordered_from_pairs (x ∷ xs) h = (
    recursion_from_All (λ y. is_gt (cmp x y) ≡ false) xs (AllPairs-head (λ x y. is_gt (cmp x y) ≡ false) x xs h),
    ordered_from_pairs xs (AllPairs-tail (λ x y. is_gt (cmp x y) ≡ false) x xs h),
  )

  pub ordered_from_sorted : (xs : List X) → IsSortedBy (λ x y. is_lt (cmp x y)) xs → IsOrdered cmp xs
  ordered_from_sorted xs up =
      ordered_from_pairs xs (λ i j d l m.
      let far : is_lt (cmp (get_or xs j d) (get_or xs i d)) ≡ false =
      sorted_far (λ x y. is_lt (cmp x y)) (ranks_by total (λ (x : X). x)) xs up i j d (omega arith) m in
      ap is_gt (total.antisymm (get_or xs i d) (get_or xs j d)) ∙ not_above_back (cmp (get_or xs j d) (get_or xs i d)) far)

  -- ---- a list in order is determined by how often it has each element

  pub count_none : (x : X) (xs : List X) → AllByRecursion (λ y. cmp x y ≡ Less) xs → count_of cmp x xs ≡ 0
  count_none x [] h = refl
  count_none x (y ∷ ys) h = search (rules, sum_by-cons, (count_none x ys h.1))

  count_itself : (x : X) (xs : List X) → count_of cmp x (x ∷ xs) ≡ 1 + count_of cmp x xs
  count_itself x xs = grind (arith, common_steps, tied_itself, sum_by-cons)

  below_all : (x y : X) (ys : List X) → cmp x y ≡ Less → AllByRecursion (λ z. is_gt (cmp y z) ≡ false) ys → AllByRecursion (λ z. cmp x z ≡ Less) (y ∷ ys)
  below_all x y ys l h = search (rules, each_weaker, alike_right)

  first_differs : (x y : X) (xs ys : List X) → IsOrdered cmp (y ∷ ys) → count_of cmp x (x ∷ xs) ≡ count_of cmp x (y ∷ ys) → cmp x y ≡ Less → ⊥
  first_differs x y xs ys h e l =
      let none = count_none x (y ∷ ys) (below_all x y ys l h.0) in
      let some = count_itself x xs in
      omega arith

  pub ordered_from_counts : ((x y : X) → cmp x y ≡ Equal → x ≡ y) → (xs ys : List X) → IsOrdered cmp xs → IsOrdered cmp ys
      → ((x : X) → count_of cmp x xs ≡ count_of cmp x ys) → xs ≡ ys
  ordered_from_counts exact [] [] h k e = refl
  ordered_from_counts exact [] (y ∷ ys) h k e = let some = count_itself y ys in search rules
  ordered_from_counts exact (x ∷ xs) [] h k e = let some = count_itself x xs in search rules
  ordered_from_counts exact (x ∷ xs) (y ∷ ys) h k e = by (ordered_from_counts exact xs ys h.1 k.1) (cmp x y) refl
    where
      reversed : cmp x y ≡ Greater → cmp y x ≡ Less
      reversed g = total.antisymm y x ∙ ap ordering_reverse g

      rest : x ≡ y → (z : X) → count_of cmp z xs ≡ count_of cmp z ys
      rest d z =
          let prefix : cond {A = ℕ} (is_eq (cmp z x)) 1 0 ≡ cond {A = ℕ} (is_eq (cmp z y)) 1 0 = ap (λ w. cond {A = ℕ} (is_eq (cmp z w)) 1 0) d in
          let all = e z in
          omega (arith, sum_by-cons (λ w. cond (is_eq (cmp z w)) 1 0) x xs, sum_by-cons (λ w. cond (is_eq (cmp z w)) 1 0) y ys)

      by : (((z : X) → count_of cmp z xs ≡ count_of cmp z ys) → xs ≡ ys) → (o : Ordering) → cmp x y ≡ o → x ∷ xs ≡ y ∷ ys
      by later Less f = absurd (first_differs x y xs ys k (e x) f)
      by later Greater f = absurd (first_differs y x ys xs h (sym (e y)) (reversed f))
      by later Equal f =
          let d : x ≡ y = exact x y f in
          ap (λ (z : X). z ∷ xs) d ∙ ap (λ (zs : List X). y ∷ zs) (later (rest d))

  -- lists that have each element equally often are alike once they are in order
  pub sort_by-same : ((x y : X) → cmp x y ≡ Equal → x ≡ y) → (xs ys : List X) → ((x : X) → count_of cmp x xs ≡ count_of cmp x ys)
      → sort_by cmp xs ≡ sort_by cmp ys
  sort_by-same exact xs ys e =
      ordered_from_counts exact (sort_by cmp xs) (sort_by cmp ys) (ordered-sort_by xs) (ordered-sort_by ys)
      (λ x. let a = sum_by-sort_by cmp (λ y. cond (is_eq (cmp x y)) 1 0) xs in let b = sum_by-sort_by cmp (λ y. cond (is_eq (cmp x y)) 1 0) ys in a ∙ e x
      ∙ sym b)

  -- a list whose elements were put in order, in whichever way
  pub sorted_is_sort_by : ((x y : X) → cmp x y ≡ Equal → x ≡ y) → (xs ys : List X) → IsPermutation xs ys → IsSortedBy (λ x y. is_lt (cmp x y)) ys
      → ys ≡ sort_by cmp xs
  sorted_is_sort_by exact xs ys p up = search (rules, ordered_from_counts, ordered_from_sorted, ordered-sort_by, sum_by-IsPermutation, sum_by-sort_by)

  -- equal lists for permuted lists in order
  pub sorted_same : ((x y : X) → cmp x y ≡ Equal → x ≡ y) → (xs ys : List X) → IsPermutation xs ys → IsSortedBy (λ x y. is_lt (cmp x y)) xs
      → IsSortedBy (λ x y. is_lt (cmp x y)) ys → xs ≡ ys
  sorted_same exact xs ys p up also = search (rules, ordered_from_counts, ordered_from_sorted, sum_by-IsPermutation)

-- ---- what is put in order is a sorted permutation, in std's words

permutation-insert_by : {X : Type 0} (cmp : X → X → Ordering) (x : X) (xs : List X) → IsPermutation (x ∷ xs) (insert_by cmp x xs)
permutation-insert_by cmp x [] = IsPermutation-refl (x ∷ [])
permutation-insert_by cmp x (y ∷ ys) =
    let exchanged : IsPermutation (x ∷ (y ∷ ys)) (y ∷ (x ∷ ys)) = IsPermutation-sym (y ∷ (x ∷ ys)) (x ∷ (y ∷ ys)) (IsPermutation-middle (y ∷ []) x ys) in
    search (rules, IsPermutation-cons, IsPermutation-trans, IsPermutation-refl, (permutation-insert_by cmp x ys))

pub permutation-sort_by : {X : Type 0} (cmp : X → X → Ordering) (xs : List X) → IsPermutation xs (sort_by cmp xs)
permutation-sort_by cmp [] = IsPermutation-refl []
permutation-sort_by cmp (x ∷ xs) =
    IsPermutation-trans (x ∷ xs) (x ∷ sort_by cmp xs) (insert_by cmp x (sort_by cmp xs))
    (IsPermutation-cons x xs (sort_by cmp xs) (permutation-sort_by cmp xs)) (permutation-insert_by cmp x (sort_by cmp xs))

not_below_back : (o : Ordering) → is_gt o ≡ false → is_lt (ordering_reverse o) ≡ false
not_below_back Less e = refl
not_below_back Equal e = refl
not_below_back Greater e = absurd (cc)

sorted_from_ordered : {X : Type 0} (cmp : X → X → Ordering) → IsTotalOrder cmp → (xs : List X) → IsOrdered cmp xs → IsSorted cmp xs
sorted_from_ordered cmp total [] h k d l m = absurd (omega arith)
sorted_from_ordered cmp total (x ∷ []) h k d l m = absurd (omega arith)
sorted_from_ordered cmp total (x ∷ y ∷ ys) h zero d l m = ap is_lt (total.antisymm y x) ∙ not_below_back (cmp x y) h.0.0
sorted_from_ordered cmp total (x ∷ y ∷ ys) h (suc k) d l m = search (rules, (sorted_from_ordered cmp total (y ∷ ys) h.1 k d (omega arith) (omega arith)))

pub sorted-sort_by : {X : Type 0} (cmp : X → X → Ordering) → IsTotalOrder cmp → (xs : List X) → IsSorted cmp (sort_by cmp xs)
sorted-sort_by cmp total xs = sorted_from_ordered cmp total (sort_by cmp xs) (ordered-sort_by cmp total xs)
