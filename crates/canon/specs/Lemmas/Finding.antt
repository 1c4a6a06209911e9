-- What is found first in a list in order is what passes and before which nothing passes, by induction on the list.
use Rattle.std.proofs.Common.{rules, ◌≡◌, ℕ, ◌<◌, Bool, true, false, cond, ⊎_elim, List, [], ◌∷◌, refl, sym, ap, ◌∙◌, subst, arith, Some, Ordering, Less, Equal}
use Rattle.std.proofs.lemmas.Grind.{common_steps}
use Rattle.std.proofs.Common.{Greater}
use Rattle.std.specs.Prelude.{AllPairs, Contains}
use Rattle.std.specs.List.{find, AllByRecursion}
use Rattle.std.specs.Ordering.{is_eq, is_gt}
use Rattle.std.specs.Cmp.{IsTotalOrder, Equal-is}
use Rattle.std.proofs.lemmas.Bool.{cases_Bool, both_ways}
use Rattle.std.proofs.lemmas.Cmp.{tied_itself}
use Rattle.std.proofs.lemmas.List.Elements.{All-contains}
use Rattle.std.proofs.lemmas.List.Sums.{sum_by-cons}
use Rattle.valuation.specs.Lemmas.Lists.{Contains-cons_cases, AllPairs-head, AllPairs-tail}
use Rattle.valuation.specs.Lemmas.Sorting.{IsOrdered}
use Rattle.valuation.specs.Sorting.{count_of}
use Rattle.prune.specs.Lemmas.Lists.{Contains-nil, Contains-head, Contains-tail}

pub equal_from : (o : Ordering) → is_eq o ≡ true → o ≡ Equal
equal_from o e = (Equal-is o).0 e

-- what is found passes, and nothing before it does
pub record IsFirst {X : Type 0} (R : X → X → Type 0) (p : X → Bool) (xs : List X) (x : X) : Type 0 where
  pub there : Contains xs x
  pub passes : p x ≡ true
  pub first : (y : X) → Contains xs y → R y x → p y ≡ false

pub found_first : {X : Type 0} (R : X → X → Type 0) → ((x y : X) → R x y → R y x → ⊥) → (p : X → Bool) (xs : List X) → AllPairs R xs → (x : X)
    → find p xs ≡ Some x → IsFirst R p xs x
found_first R apart p [] s x e = absurd (cc)
found_first {X} R apart p (z ∷ zs) s x e = ⊎_elim here (later (found_first R apart p zs (AllPairs-tail R z zs s) x)) (cases_Bool (p z))
  where
    here : p z ≡ true → IsFirst R p (z ∷ zs) x
    here t =
        let same : z ≡ x = let d : Some z ≡ Some x = sym (ap (λ b. cond b (Some z) (find p zs)) t) ∙ e in cc in
        record {
          there = subst (λ y. Contains (z ∷ zs) y) same (Contains-head z zs);
          passes = ap p (sym same) ∙ t;
          first = λ y c r. let q : R y z = subst (λ w. R y w) (sym same) r in
              ⊎_elim (λ (d : z ≡ y). absurd (let w : R z z = subst (λ v. R v z) (sym d) q in apart z z w w))
              (λ (d : Contains zs y). absurd (apart z y (All-contains (R z) zs y (AllPairs-head R z zs s) d) q)) (Contains-cons_cases z zs y c);
        }

    later : (find p zs ≡ Some x → IsFirst R p zs x) → p z ≡ false → IsFirst R p (z ∷ zs) x
    later rest t =
        let found = rest (sym (ap (λ b. cond b (Some z) (find p zs)) t) ∙ e) in
        record {
          there = Contains-tail z zs x found.there;
          passes = found.passes;
          first = λ y c r. ⊎_elim (λ (d : z ≡ y). ap p (sym d) ∙ t) (λ (d : Contains zs y). found.first y d r) (Contains-cons_cases z zs y c);
        }

-- and an element that passes, and before which nothing does, is found
pub find_it : {X : Type 0} (R : X → X → Type 0) (p : X → Bool) (xs : List X) → AllPairs R xs → (x : X) → IsFirst R p xs x → find p xs ≡ Some x
find_it R p [] s x f = absurd (Contains-nil x f.there)
find_it R p (z ∷ zs) s x f = ⊎_elim (search rules) (λ (d : Contains zs x).
    let t : p z ≡ false = f.first z (Contains-head z zs) (All-contains (R z) zs x (AllPairs-head R z zs s) d) in
    ap (λ b. cond b (Some z) (find p zs)) t
    ∙ find_it R p zs (AllPairs-tail R z zs s) x (record { there = d; passes = f.passes; first = λ y c r. f.first y (Contains-tail z zs y c) r }))
    (Contains-cons_cases z zs x f.there)

-- ---- lists in an order, in which elements may be more than once

module _ {X : Type 0} (cmp : X → X → Ordering) (total : IsTotalOrder cmp) (exact : (x y : X) → cmp x y ≡ Equal → x ≡ y) where
  each_at : (P : X → Type 0) (xs : List X) (x : X) → AllByRecursion P xs → Contains xs x → P x
  each_at P [] x h c = absurd (Contains-nil x c)
  each_at P (y ∷ ys) x h c = ⊎_elim (λ (d : y ≡ x). subst P d h.0) (λ (d : Contains ys x). each_at P ys x h.1 d) (Contains-cons_cases y ys x c)

  -- the least element that passes is found
  pub find_least : (p : X → Bool) (xs : List X) → IsOrdered cmp xs → (x : X) → Contains xs x → p x ≡ true → ((y : X) → cmp y x ≡ Less → p y ≡ false)
      → find p xs ≡ Some x
  find_least p [] s x c t f = absurd (Contains-nil x c)
  find_least p (z ∷ zs) s x c t f = ⊎_elim (search rules)
      (λ (d : Contains zs x). by (find_least p zs s.1 x d t f) (each_at (λ y. is_gt (cmp z y) ≡ false) zs x s.0 d) (cmp z x) refl)
      (Contains-cons_cases z zs x c)
    where
      by : find p zs ≡ Some x → is_gt (cmp z x) ≡ false → (o : Ordering) → cmp z x ≡ o → find p (z ∷ zs) ≡ Some x
      by later n Less e = ap (λ b. cond b (Some z) (find p zs)) (f z e) ∙ later
      by later n Equal e = let d : z ≡ x = exact z x e in ap (λ b. cond b (Some z) (find p zs)) (ap p d ∙ t) ∙ ap Some d
      by later n Greater e = absurd (let g : is_gt (cmp z x) ≡ true = ap is_gt e in both_ways (is_gt (cmp z x)) n g)

  -- what is found passes, and no lesser element does that is there
  pub record IsLeast (p : X → Bool) (xs : List X) (x : X) : Type 0 where
    pub there : Contains xs x
    pub passes : p x ≡ true
    pub least : (y : X) → Contains xs y → cmp y x ≡ Less → p y ≡ false

  pub found_least : (p : X → Bool) (xs : List X) → IsOrdered cmp xs → (x : X) → find p xs ≡ Some x → IsLeast p xs x
  found_least p [] s x e = absurd (cc)
  found_least p (z ∷ zs) s x e =
      grind (arith, common_steps, cases_Bool, both_ways, Contains-head, tied_itself, each_at, Contains-cons_cases, Contains-tail, (found_least p zs s.1 x))

  -- an element that is counted is there
  pub counted_is_there : (x : X) (xs : List X) → 0 < count_of cmp x xs → Contains xs x
  counted_is_there x [] l = let none : count_of cmp x [] ≡ 0 = refl in absurd (omega arith)
  counted_is_there x (y ∷ ys) l = ⊎_elim (search (rules, equal_from, Contains-head)) (λ (t : is_eq (cmp x y) ≡ false).
      let first : cond {A = ℕ} (is_eq (cmp x y)) 1 0 ≡ 0 = ap (λ b. cond {A = ℕ} b 1 0) t in
      Contains-tail y ys x (counted_is_there x ys (omega (arith, sum_by-cons (λ z. cond (is_eq (cmp x z)) 1 0) y ys)))) (cases_Bool (is_eq (cmp x y)))
