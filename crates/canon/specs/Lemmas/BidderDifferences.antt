-- The least element that two lists in order do not have equally often. It is the first such one of both lists, put in order together;
-- where two lists that never fall part, it is the lesser of the two elements there, since what is behind is no less.
use Rattle.std.proofs.Common.{rules, ◌≡◌, ℕ, ◌+◌, ◌<◌, Bool, true, false, not, eqb, cond, ⊎_elim, List, [], ◌∷◌, ◌++◌, refl, ap, ◌∙◌, subst, arith, Option}
use Rattle.std.proofs.Common.{Some, None, Ordering, Less, Equal, Greater}
use Rattle.std.specs.Prelude.{Contains}
use Rattle.std.specs.List.{find, AllByRecursion}
use Rattle.std.specs.Ordering.{is_eq, is_gt}
use Rattle.std.specs.Cmp.{IsTotalOrder}
use Rattle.std.proofs.lemmas.Bool.{both_ways, eqb-true, eq-eqb, ne_eqb, not_from_true, not_from_false}
use Rattle.std.proofs.lemmas.Cmp.{tied_itself}
use Rattle.std.proofs.lemmas.List.Sums.{sum_by-cons, sum_by-append}
use Rattle.valuation.specs.Sorting.{sort_by, count_of}
use Rattle.valuation.specs.Lemmas.Sorting.{sum_by-sort_by, ordered-sort_by, sort_by-same, IsOrdered, count_none}
use Rattle.prune.specs.Lemmas.Lists.{zero_or_more, filter_same_on, find_alike, All-from_Contains, found_none}
use Rattle.canon.specs.Lemmas.Finding.{find_least, found_least, counted_is_there}
use Rattle.canon.specs.Lemmas.OrDifferences.{eqb_swap}
use Rattle.std.proofs.lemmas.Grind.{common_steps}

module _ {X : Type 0} (cmp : X → X → Ordering) where
  -- whether the lists do not have it equally often
  abbrev pub is_uneven : List X → List X → X → Bool
  is_uneven one other x = not (eqb (count_of cmp x one) (count_of cmp x other))

  uneven_test : (one other : List X) (x : X) → (count_of cmp x one ≡ count_of cmp x other → ⊥) → is_uneven one other x ≡ true
  uneven_test one other x n = not_from_false (eqb (count_of cmp x one) (count_of cmp x other)) (ne_eqb (count_of cmp x one) (count_of cmp x other) n)

  even_test : (one other : List X) (x : X) → count_of cmp x one ≡ count_of cmp x other → is_uneven one other x ≡ false
  even_test one other x e = not_from_true (eqb (count_of cmp x one) (count_of cmp x other)) (eq-eqb (count_of cmp x one) (count_of cmp x other) e)

  even_from_test : (one other : List X) (x : X) → is_uneven one other x ≡ false → count_of cmp x one ≡ count_of cmp x other
  even_from_test one other x e = grind (arith, common_steps, eqb-true, not_from_false)

  pub count_of-append : (x : X) (xs ys : List X) → count_of cmp x (xs ++ ys) ≡ count_of cmp x xs + count_of cmp x ys
  count_of-append x xs ys = sum_by-append (λ y. cond {A = ℕ} (is_eq (cmp x y)) 1 0) xs ys

  count_of-sort_by : (x : X) (xs : List X) → count_of cmp x (sort_by cmp xs) ≡ count_of cmp x xs
  count_of-sort_by x xs = sum_by-sort_by cmp (λ y. cond (is_eq (cmp x y)) 1 0) xs

module _ {X : Type 0} (cmp : X → X → Ordering) (total : IsTotalOrder cmp) (exact : (x y : X) → cmp x y ≡ Equal → x ≡ y) where
  -- the elements of both lists, in order, and the first of them that they do not have equally often
  abbrev pub both_in_order : List X → List X → List X
  both_in_order one other = sort_by cmp (one ++ other)

  abbrev pub least_uneven : List X → List X → Option X
  least_uneven one other = find (is_uneven cmp one other) (both_in_order one other)

  -- it does not matter which list comes first
  pub least_uneven_swap : (one other : List X) → least_uneven one other ≡ least_uneven other one
  least_uneven_swap one other = grind (arith, common_steps, sort_by-same, count_of-append, find_alike, filter_same_on, All-from_Contains, eqb_swap)

  -- an element that either list has is among both
  there_in_both : (one other : List X) (x : X) → 0 < count_of cmp x one + count_of cmp x other → Contains (both_in_order one other) x
  there_in_both one other x l = search (rules, counted_is_there, count_of-append, count_of-sort_by)

  -- where there is none, all are counted alike
  pub all_even : (one other : List X) → least_uneven one other ≡ None → (x : X) → count_of cmp x one ≡ count_of cmp x other
  all_even one other e x =
      ⊎_elim (λ (z : count_of cmp x one + count_of cmp x other ≡ 0). omega arith)
      (λ (l : 0 < count_of cmp x one + count_of cmp x other). even_from_test cmp one other x (found_none (is_uneven cmp one other) (both_in_order one other) e x
      (there_in_both one other x l)))
      (zero_or_more (count_of cmp x one + count_of cmp x other))

  -- a list has none that itself has not
  pub none_of_same : (one : List X) → least_uneven one one ≡ None
  none_of_same one = none (both_in_order one one)
    where
      none : (xs : List X) → find (is_uneven cmp one one) xs ≡ None
      none [] = refl
      none (x ∷ xs) = ap (λ b. cond b (Some x) (find (is_uneven cmp one one) xs)) (even_test cmp one one x refl) ∙ none xs

  -- the least one is counted differently, and all before it alike
  pub record IsLeastUneven (one other : List X) (x : X) : Type 0 where
    pub differ : count_of cmp x one ≡ count_of cmp x other → ⊥
    pub earlier : (y : X) → cmp y x ≡ Less → count_of cmp y one ≡ count_of cmp y other

  pub least_uneven_is : (one other : List X) (x : X) → least_uneven one other ≡ Some x → IsLeastUneven one other x
  least_uneven_is one other x e =
      let f = found_least cmp total exact (is_uneven cmp one other) (both_in_order one other) (ordered-sort_by cmp total (one ++ other)) x e in
      search (rules, both_ways, even_test, even_from_test, there_in_both, zero_or_more)

  pub least_uneven_found : (one other : List X) (x : X) → IsLeastUneven one other x → least_uneven one other ≡ Some x
  least_uneven_found one other x h = find_least cmp total exact (is_uneven cmp one other) (both_in_order one other) (ordered-sort_by cmp total (one ++ other)) x
      (search (rules, there_in_both, zero_or_more)) (uneven_test cmp one other x h.differ) (λ y l. even_test cmp one other y (h.earlier y l))

  -- ---- lists in order that part at some index

  -- the elements of a list in order whose first is behind x
  pub behind : (x y : X) (ys : List X) → IsOrdered cmp (y ∷ ys) → cmp x y ≡ Less → AllByRecursion (λ z. cmp x z ≡ Less) (y ∷ ys)
  behind x y ys s l = (l, each ys s.0)
    where
      step : (z : X) (o : Ordering) → cmp y z ≡ o → is_gt o ≡ false → cmp x z ≡ Less
      step z Less e k = total.trans x y z l e
      step z Equal e k = subst (λ (w : X). cmp x w ≡ Less) (exact y z e) l
      step z Greater e k = absurd (cc)

      each : (zs : List X) → AllByRecursion (λ z. is_gt (cmp y z) ≡ false) zs → AllByRecursion (λ z. cmp x z ≡ Less) zs
      each [] h = tt
      each (z ∷ zs) h = (step z (cmp y z) refl h.0, each zs h.1)

  behind_further : (w x : X) (ys : List X) → cmp w x ≡ Less → AllByRecursion (λ z. cmp x z ≡ Less) ys → AllByRecursion (λ z. cmp w z ≡ Less) ys
  behind_further w x [] l h = tt
  behind_further w x (y ∷ ys) l h = (total.trans w x y l h.0, behind_further w x ys l h.1)

  -- the first list goes on with x, the second behind x or not at all
  pub parts_at_left : (prefix : List X) (x : X) (xs ys : List X) → IsOrdered cmp (x ∷ xs) → AllByRecursion (λ y. cmp x y ≡ Less) ys
      → least_uneven (prefix ++ (x ∷ xs)) (prefix ++ ys) ≡ Some x
  parts_at_left prefix x xs ys s h =
      least_uneven_found (prefix ++ (x ∷ xs)) (prefix ++ ys) x (record {
        differ = λ e.
            let a = count_of-append cmp x prefix (x ∷ xs) in
            let b = count_of-append cmp x prefix ys in
            let none = count_none cmp total x ys h in
            let here : cond {A = ℕ} (is_eq (cmp x x)) 1 0 ≡ 1 = ap (λ o. cond {A = ℕ} (is_eq o) 1 0) (tied_itself total x) in
            let some = sum_by-cons (λ y. cond {A = ℕ} (is_eq (cmp x y)) 1 0) x xs in
            omega arith;
        earlier = λ y l.
            let a = count_of-append cmp y prefix (x ∷ xs) in
            let b = count_of-append cmp y prefix ys in
            let here = count_none cmp total y (x ∷ xs) (behind y x xs s l) in
            let there = count_none cmp total y ys (behind_further y x ys l h) in
            omega arith;
      })
