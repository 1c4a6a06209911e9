-- A strictly sorted list is what it contains: two that contain the same are equal. So a result that is sorted and contains
-- exactly what a definition lists in order is the definition's list.
use Rattle.std.proofs.Common.{◌≡◌, zero, suc, ◌⊎◌, inl, inr, ⊎_elim, List, [], ◌∷◌, refl, sym, ap₂, ◌∙◌, subst, arith, Ordering, Less}
use Rattle.std.specs.List.{Contains, AllByRecursion}
use Rattle.std.specs.List.Sorted.{IsStrictlySortedBy}

-- what an order by a part of the elements has too
pub record IsStrict {X : Type 0} (c : X → X → Ordering) : Type 0 where
  pub irreflexive : (x : X) → c x x ≡ Less → ⊥
  pub transitive : (x y z : X) → c x y ≡ Less → c y z ≡ Less → c x z ≡ Less

pub contains_head : {X : Type 0} (x : X) (xs : List X) → Contains (x ∷ xs) x
contains_head x xs = (0, omega arith, refl)

pub contains_tail : {X : Type 0} (x : X) (xs : List X) (y : X) → Contains xs y → Contains (x ∷ xs) y
contains_tail x xs y c = (suc c.0, omega (arith, c.1), c.2)

pub contains_cases : {X : Type 0} (x : X) (xs : List X) (y : X) → Contains (x ∷ xs) y → (x ≡ y) ⊎ Contains xs y
contains_cases x xs y (zero, l, e) = inl e
contains_cases x xs y (suc k, l, e) = inr (k, omega arith, e)

later : {X : Type 0} (P : X → Type 0) (xs : List X) (y : X) → AllByRecursion P xs → Contains xs y → P y
later P [] y h c = absurd (omega (arith, c.1))
later P (x ∷ xs) y h c = ⊎_elim (λ (e : x ≡ y). subst P e h.0) (λ (d : Contains xs y). later P xs y h.1 d) (contains_cases x xs y c)

pub same_from_contains : {X : Type 0} (c : X → X → Ordering) (s : IsStrict c) (xs ys : List X) → IsStrictlySortedBy c xs → IsStrictlySortedBy c ys
    → ((x : X) → Contains xs x → Contains ys x) → ((x : X) → Contains ys x → Contains xs x) → xs ≡ ys
unfolding IsStrictlySortedBy
same_from_contains c s [] [] p q h k = refl
same_from_contains c s [] (y ∷ ys) p q h k = absurd (omega (arith, (k y (contains_head y ys)).1))
same_from_contains c s (x ∷ xs) [] p q h k = absurd (omega (arith, (h x (contains_head x xs)).1))
same_from_contains {X} c s (x ∷ xs) (y ∷ ys) p q h k =
    let e : x ≡ y = heads (contains_cases y ys x (h x (contains_head x xs))) (contains_cases x xs y (k y (contains_head y ys))) in
    ap₂ (λ (z : X) (zs : List X). z ∷ zs) e (same_from_contains c s xs ys p.1 q.1 (λ z m. on z m e) (λ z m. back z m e))
  where
    heads : (y ≡ x) ⊎ Contains ys x → (x ≡ y) ⊎ Contains xs y → x ≡ y
    heads (inl e) d = sym e
    heads (inr a) (inl e) = e
    heads (inr a) (inr b) = absurd (s.irreflexive x (s.transitive x y x (later (λ z. c x z ≡ Less) xs y p.0 b) (later (λ z. c y z ≡ Less) ys x q.0 a)))

    on : (z : X) → Contains xs z → x ≡ y → Contains ys z
    on z m e = ⊎_elim (λ (d : y ≡ z). absurd (s.irreflexive x (subst (λ w. c x w ≡ Less) (sym (e ∙ d)) (later (λ w. c x w ≡ Less) xs z p.0 m))))
        (λ (d : Contains ys z). d) (contains_cases y ys z (h z (contains_tail x xs z m)))

    back : (z : X) → Contains ys z → x ≡ y → Contains xs z
    back z m e = ⊎_elim (λ (d : x ≡ z). absurd (s.irreflexive y (subst (λ w. c y w ≡ Less) (sym (sym e ∙ d)) (later (λ w. c y w ≡ Less) ys z q.0 m))))
        (λ (d : Contains xs z). d) (contains_cases x xs z (k z (contains_tail y ys z m)))
