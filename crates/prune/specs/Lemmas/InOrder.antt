-- Lists of atoms in order: each bundle is there once, so a list in order is what it contains.
use Rattle.std.proofs.Common.{rules, ◌≡◌, ℕ, true, false, ◌⊎◌, inl, inr, ⊎_elim, List, [], ◌∷◌, refl, sym, ap, ap₂, ◌∙◌, subst, Less, Equal}
use Rattle.std.specs.Prelude.{Contains}
use Rattle.std.specs.Ordering.{is_eq}
use Rattle.std.proofs.lemmas.List.Elements.{All-contains}
use Rattle.goods_set.specs.Bundles.{IsRising, IsInside}
use Rattle.goods_set.specs.Orders.{bundle_cmp}
use Rattle.goods_set.specs.Lemmas.Orders.{bundle_cmp_total, bundle_cmp_refl, bundle_cmp_equal, inside_ordered}
use Rattle.valuation.specs.declared.atom.Atom.{Atom}
use Rattle.valuation.specs.Lemmas.Lists.{Contains-cons_cases, AllPairs-head, AllPairs-tail}
use Rattle.prune.specs.Lemmas.Lists.{Contains-nil, Contains-head, Contains-tail}
use Rattle.prune.specs.InOrder.{IsBefore, IsInOrder}

-- ---- the order

pub before_itself : (xs : List ℕ) → bundle_cmp xs xs ≡ Less → ⊥
before_itself xs l = let e = bundle_cmp_refl xs in let d : Less ≡ Equal = sym l ∙ e in cc

pub before_both : (xs ys : List ℕ) → bundle_cmp xs ys ≡ Less → bundle_cmp ys xs ≡ Less → ⊥
before_both xs ys l m = before_itself xs (bundle_cmp_total.trans xs ys xs l m)

pub same_cases : (xs ys : List ℕ) → ((xs ≡ ys) × (is_eq (bundle_cmp xs ys) ≡ true)) ⊎ ((xs ≡ ys → ⊥) × (is_eq (bundle_cmp xs ys) ≡ false))
same_cases xs ys = search (rules, bundle_cmp_refl, bundle_cmp_equal)

-- a bundle before another does not have it inside
pub before_not_inside : (xs ys : List ℕ) → IsRising xs → IsRising ys → bundle_cmp xs ys ≡ Less → IsInside ys xs → ⊥
before_not_inside xs ys r s l i =
    ⊎_elim (λ (m : bundle_cmp ys xs ≡ Less). before_both xs ys l m) (λ (e : ys ≡ xs). before_itself xs (subst (λ (zs : List ℕ). bundle_cmp xs zs ≡ Less) e l))
    (inside_ordered ys xs s r i)

-- ---- lists

-- two atoms of the list on one bundle are one
pub same_bundle_same_atom : (atoms : List (Atom (List ℕ))) → IsInOrder atoms → (a b : Atom (List ℕ)) → Contains atoms a → Contains atoms b → a.bundle ≡ b.bundle
    → a ≡ b
same_bundle_same_atom [] s a b c d e = absurd (Contains-nil a c)
same_bundle_same_atom (x ∷ xs) s a b c d e =
    ⊎_elim
    (λ (p : x ≡ a). ⊎_elim (λ (q : x ≡ b). sym p ∙ q) (λ (q : Contains xs b). absurd (alike b q (ap (λ (z : Atom (List ℕ)). z.bundle) p ∙ e)))
    (Contains-cons_cases x xs b d))
    (λ (p : Contains xs a). ⊎_elim (λ (q : x ≡ b). absurd (alike a p (ap (λ (z : Atom (List ℕ)). z.bundle) q ∙ sym e)))
    (λ (q : Contains xs b). same_bundle_same_atom xs (AllPairs-tail IsBefore x xs s) a b p q e) (Contains-cons_cases x xs b d))
    (Contains-cons_cases x xs a c)
  where
    alike : (z : Atom (List ℕ)) → Contains xs z → x.bundle ≡ z.bundle → ⊥
    alike z q f = before_itself x.bundle
        (subst (λ (zs : List ℕ). bundle_cmp x.bundle zs ≡ Less) (sym f) (All-contains (IsBefore x) xs z (AllPairs-head IsBefore x xs s) q))

-- two lists in order with the same atoms are equal
pub same_in_order : (xs ys : List (Atom (List ℕ))) → IsInOrder xs → IsInOrder ys → ((a : Atom (List ℕ)) → Contains xs a → Contains ys a)
    → ((a : Atom (List ℕ)) → Contains ys a → Contains xs a) → xs ≡ ys
same_in_order [] [] s t h k = refl
same_in_order [] (y ∷ ys) s t h k = absurd (Contains-nil y (k y (Contains-head y ys)))
same_in_order (x ∷ xs) [] s t h k = absurd (Contains-nil x (h x (Contains-head x xs)))
same_in_order (x ∷ xs) (y ∷ ys) s t h k =
    let e : x ≡ y = heads (Contains-cons_cases y ys x (h x (Contains-head x xs))) (Contains-cons_cases x xs y (k y (Contains-head y ys))) in
    ap₂ (λ (z : Atom (List ℕ)) (zs : List (Atom (List ℕ))). z ∷ zs) e
    (same_in_order xs ys (AllPairs-tail IsBefore x xs s) (AllPairs-tail IsBefore y ys t) (λ a c. later a c e) (λ a c. back a c e))
  where
    heads : (y ≡ x) ⊎ Contains ys x → (x ≡ y) ⊎ Contains xs y → x ≡ y
    heads (inl e) q = sym e
    heads (inr a) (inl e) = e
    heads (inr a) (inr b) =
        absurd (before_both x.bundle y.bundle (All-contains (IsBefore x) xs y (AllPairs-head IsBefore x xs s) b)
        (All-contains (IsBefore y) ys x (AllPairs-head IsBefore y ys t) a))

    later : (a : Atom (List ℕ)) → Contains xs a → x ≡ y → Contains ys a
    later a c e = ⊎_elim (λ (d : y ≡ a). absurd
        (before_itself x.bundle
        (subst (λ (z : Atom (List ℕ)). IsBefore x z) (sym d ∙ sym e) (All-contains (IsBefore x) xs a (AllPairs-head IsBefore x xs s) c))))
        (λ (d : Contains ys a). d) (Contains-cons_cases y ys a (h a (Contains-tail x xs a c)))

    back : (a : Atom (List ℕ)) → Contains ys a → x ≡ y → Contains xs a
    back a c e = ⊎_elim (λ (d : x ≡ a). absurd
        (before_itself y.bundle (subst (λ (z : Atom (List ℕ)). IsBefore y z) (sym d ∙ e) (All-contains (IsBefore y) ys a (AllPairs-head IsBefore y ys t) c))))
        (λ (d : Contains xs a). d) (Contains-cons_cases x xs a (k a (Contains-tail y ys a c)))
