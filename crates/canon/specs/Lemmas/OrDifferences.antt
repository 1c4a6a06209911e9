-- The first bundle on which the OR values of two OR bidders differ.
use Rattle.std.proofs.Common.{◌≡◌, ℕ, ◌<◌, Bool, true, false, not, eqb, List, refl, sym, subst, arith, Some, Less, rules}
use Rattle.std.specs.Prelude.{All, Contains}
use Rattle.std.specs.List.{find}
use Rattle.std.proofs.lemmas.Bool.{both_ways, eqb-true, eq-eqb, ne_eqb, not_from_true, not_from_false}
use Rattle.std.proofs.lemmas.List.Elements.{All-contains}
use Rattle.goods_set.specs.Bundles.{IsBundle, without, all_bundles}
use Rattle.goods_set.specs.Lemmas.Members.{inside_refl, without_inside, IsBundle-without}
use Rattle.goods_set.specs.Orders.{bundle_cmp}
use Rattle.goods_set.specs.Lemmas.Orders.{inside_before}
use Rattle.goods_set.specs.Lemmas.AllBundles.{all_bundles_are, all_bundles_has, all_bundles_rise}
use Rattle.valuation.specs.declared.atom.Atom.{Atom}
use Rattle.valuation.specs.Values.{or_value}
use Rattle.valuation.specs.Lemmas.OrValues.{or_value-split}
use Rattle.prune.specs.InOrder.{IsInOrder}
use Rattle.prune.specs.Lemmas.InOrder.{before_both}
use Rattle.prune.specs.Lemmas.KeptBids.{all_nonempty, left_is_proper}
use Rattle.prune.specs.Lemmas.Lists.{filter_same_on, find_alike, All-from_Contains}
use Rattle.prune.specs.Lemmas.OnBundles.{IsOnBundle}
use Rattle.prune.specs.Points.{is_or_point, or_points, IsPart, IsOrPoint}
use Rattle.prune.specs.Lemmas.Points.{IsOrPoint-from_test, no_or_point, inside_below, points_where-in_order, or_points_are}
use Rattle.canon.specs.Lemmas.Finding.{found_first, find_it}
use Rattle.std.specs.Cmp.{both_ways as same_test}
use Rattle.std.proofs.lemmas.Grind.{common_steps}

-- whether the values on the bundle differ
abbrev pub are_unequal : List (Atom (List ℕ)) → List (Atom (List ℕ)) → List ℕ → Bool
are_unequal one other bundle = not (eqb (or_value one bundle) (or_value other bundle))

unequal_test : (one other : List (Atom (List ℕ))) (bundle : List ℕ) → (or_value one bundle ≡ or_value other bundle → ⊥) → are_unequal one other bundle ≡ true
unequal_test one other bundle n = not_from_false (eqb (or_value one bundle) (or_value other bundle)) (ne_eqb (or_value one bundle) (or_value other bundle) n)

pub equal_test : (one other : List (Atom (List ℕ))) (bundle : List ℕ) → or_value one bundle ≡ or_value other bundle → are_unequal one other bundle ≡ false
equal_test one other bundle e = not_from_true (eqb (or_value one bundle) (or_value other bundle)) (eq-eqb (or_value one bundle) (or_value other bundle) e)

pub equal_from_test : (one other : List (Atom (List ℕ))) (bundle : List ℕ) → are_unequal one other bundle ≡ false → or_value one bundle ≡ or_value other bundle
equal_from_test one other bundle e = grind (arith, common_steps, eqb-true, not_from_false)

pub eqb_swap : (m n : ℕ) → eqb m n ≡ eqb n m
eqb_swap m n = same_test (eqb m n) (eqb n m) (λ t. eq-eqb n m (sym (eqb-true m n t))) (λ t. eq-eqb m n (sym (eqb-true n m t)))

-- it does not matter which bidder comes first
pub unequal_swap : (one other : List (Atom (List ℕ))) (bundles : List (List ℕ)) → find (are_unequal one other) bundles ≡ find (are_unequal other one) bundles
unequal_swap one other bundles = search (rules, find_alike, filter_same_on, All-from_Contains, eqb_swap)

module _ (goods : ℕ) where
  -- the values agree on the bundles before this one
  pub record AgreeBefore (one other : List (Atom (List ℕ))) (bundle : List ℕ) : Type 0 where
    pub agree : (earlier : List ℕ) → IsBundle goods earlier → bundle_cmp earlier bundle ≡ Less → or_value one earlier ≡ or_value other earlier

  -- the first bundle on which the values differ
  pub record IsFirstUnequal (one other : List (Atom (List ℕ))) (bundle : List ℕ) : Type 0 where
    pub within : IsBundle goods bundle
    pub earlier : AgreeBefore one other bundle
    pub differ : or_value one bundle ≡ or_value other bundle → ⊥

  pub first_unequal : (one other : List (Atom (List ℕ))) (bundle : List ℕ) → find (are_unequal one other) (all_bundles goods) ≡ Some bundle
      → IsFirstUnequal one other bundle
  first_unequal one other bundle e =
      let f = found_first (λ xs ys. bundle_cmp xs ys ≡ Less) before_both (are_unequal one other) (all_bundles goods) (all_bundles_rise goods) bundle e in
      search (rules, All-contains, all_bundles_are, equal_from_test, all_bundles_has, both_ways, equal_test)

  pub first_unequal_found : (one other : List (Atom (List ℕ))) (bundle : List ℕ) → IsFirstUnequal one other bundle
      → find (are_unequal one other) (all_bundles goods) ≡ Some bundle
  first_unequal_found one other bundle h =
      find_it (λ xs ys. bundle_cmp xs ys ≡ Less) (are_unequal one other) (all_bundles goods) (all_bundles_rise goods) bundle
      (search (rules, all_bundles_has, unequal_test, equal_test, All-contains, all_bundles_are))

  -- ---- the parts of a bundle come before it

  part_first : (part bundle : List ℕ) → IsBundle goods bundle → IsPart part bundle → IsBundle goods part × (bundle_cmp part bundle ≡ Less)
  part_first part bundle b p = search (rules, inside_below, inside_before, both_ways, inside_refl)

  rest_first : (part bundle : List ℕ) → IsBundle goods bundle → IsPart part bundle → IsBundle goods (without bundle part)
      × (bundle_cmp (without bundle part) bundle ≡ Less)
  rest_first part bundle b p = search (rules, IsBundle-without, inside_before, without_inside, left_is_proper, inside_refl)

  -- the bidder with the greater value has a point there
  pub greater_is_point : (one other : List (Atom (List ℕ))) → All (IsOnBundle goods) other → (bundle : List ℕ) → IsBundle goods bundle
      → AgreeBefore one other bundle → or_value other bundle < or_value one bundle → is_or_point goods one bundle ≡ true
  greater_is_point one other on bundle b h l = grind (arith, common_steps, part_first, rest_first, or_value-split, all_nonempty, on, no_or_point)

  -- and one without a point there has less than one with a point
  pub less_without_point : (one other : List (Atom (List ℕ))) (bundle : List ℕ) → IsBundle goods bundle → AgreeBefore one other bundle → IsOrPoint one bundle
      → is_or_point goods other bundle ≡ false → or_value other bundle < or_value one bundle
  less_without_point one other bundle b h point t = grind (arith, common_steps, part_first, rest_first, no_or_point)

  -- ---- lists of points

  -- the OR points of some bidder
  pub record ArePoints (atoms : List (Atom (List ℕ))) : Type 0 where
    pub on : All (IsOnBundle goods) atoms
    pub points : or_points goods atoms ≡ atoms

  pub in_order : (atoms : List (Atom (List ℕ))) → ArePoints atoms → IsInOrder atoms
  in_order atoms p = subst (λ (zs : List (Atom (List ℕ))). IsInOrder zs) p.points (points_where-in_order (is_or_point goods atoms) (or_value atoms) goods)

  -- each is a point, at its price
  pub point_there : (atoms : List (Atom (List ℕ))) → ArePoints atoms → (a : Atom (List ℕ)) → Contains atoms a → IsBundle goods a.bundle
      × IsOrPoint atoms a.bundle × (a.price ≡ or_value atoms a.bundle)
  point_there atoms p a c = (or_points_are goods atoms a).0 (subst (λ (zs : List (Atom (List ℕ))). Contains zs a) (sym p.points) c)

  -- and a point is one of them
  pub point_of : (atoms : List (Atom (List ℕ))) → ArePoints atoms → (bundle : List ℕ) → IsBundle goods bundle → is_or_point goods atoms bundle ≡ true
      → Contains atoms (record { bundle = bundle; price = or_value atoms bundle })
  point_of atoms p bundle b t =
      subst (λ (zs : List (Atom (List ℕ))). Contains zs (record { bundle = bundle; price = or_value atoms bundle })) p.points
      ((or_points_are goods atoms (record { bundle = bundle; price = or_value atoms bundle })).1 (b, IsOrPoint-from_test goods atoms bundle b t, refl))
