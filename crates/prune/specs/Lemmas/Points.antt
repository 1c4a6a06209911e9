-- What the points of a list are, good by good and split by split; and that points depend on values alone.
use Rattle.std.proofs.Common.{rules, ◌≡◌, ℕ, ◌+◌, ◌≤◌, Bool, true, false, ltb, ◌⊎◌, inl, inr, ⊎_elim, List, [], ◌∷◌, map, refl, sym, ap, ap₂}
use Rattle.std.proofs.lemmas.Grind.{common_steps}
use Rattle.std.proofs.Common.{◌∙◌, subst, arith, Less}
use Rattle.std.specs.Prelude.{All, Contains, ◌↔◌}
use Rattle.std.specs.List.{filter, list_all}
use Rattle.std.proofs.lemmas.Bool.{and_parts, and_from, and_cases, not-true, not_from_false, ltb-true, ltb-false, lt-ltb}
use Rattle.std.proofs.lemmas.List.Elements.{All-head, All-tail, All-contains}
use Rattle.std.proofs.lemmas.List.Kept.{AllPairs-filter}
use Rattle.goods_set.specs.Bundles.{AreBelow, IsRising, IsBundle, IsInside, without, all_bundles}
use Rattle.goods_set.specs.Lemmas.Members.{has_below, inside_at, AreBelow-from_has}
use Rattle.goods_set.specs.Orders.{bundle_cmp}
use Rattle.goods_set.specs.Lemmas.AllBundles.{all_bundles_are, all_bundles_has, all_bundles_rise}
use Rattle.valuation.specs.declared.atom.Atom.{Atom}
use Rattle.valuation.specs.Values.{xor_value, or_value}
use Rattle.valuation.specs.Lemmas.Lists.{AllPairs-map, Contains-map, Contains-unmap}
use Rattle.prune.specs.Points.{points_where, is_xor_point, xor_points, is_part, is_or_point, or_points, IsXorPoint, IsPart, IsOrPoint}
use Rattle.prune.specs.Lemmas.Lists.{Contains-filter, Contains-filter_parts, list_all_at, list_all_from, list_all_fails, All-from_Contains, filter_same_on}
use Rattle.prune.specs.InOrder.{IsBefore, IsInOrder}

-- ---- the list of points

-- the points are in order
pub points_where-in_order : (passes : List ℕ → Bool) (value : List ℕ → ℕ) (goods : ℕ) → IsInOrder (points_where passes value goods)
unfolding points_where
points_where-in_order passes value goods =
    AllPairs-map (λ xs ys. bundle_cmp xs ys ≡ Less) IsBefore (λ bundle. record { bundle = bundle; price = value bundle }) (λ xs ys l. l)
    (filter passes (all_bundles goods)) (search (rules, AllPairs-filter, all_bundles_rise))

-- a point: on a bundle, which passes, at its value
pub record IsPoint (passes : List ℕ → Bool) (value : List ℕ → ℕ) (goods : ℕ) (a : Atom (List ℕ)) : Type 0 where
  pub bundle : IsBundle goods a.bundle
  pub chosen : passes a.bundle ≡ true
  pub price : a.price ≡ value a.bundle

pub points_where-are : (passes : List ℕ → Bool) (value : List ℕ → ℕ) (goods : ℕ) (a : Atom (List ℕ)) → Contains (points_where passes value goods) a
    → IsPoint passes value goods a
unfolding points_where
points_where-are passes value goods a c =
    let r = Contains-unmap (λ bundle. record { bundle = bundle; price = value bundle }) (filter passes (all_bundles goods)) a c in
    let t = Contains-filter_parts passes (all_bundles goods) r.0 r.1 in
    let e : a.bundle ≡ r.0 = ap (λ (z : Atom (List ℕ)). z.bundle) r.2 in
    record {
      bundle = subst (λ (xs : List ℕ). IsBundle goods xs) (sym e) (All-contains (IsBundle goods) (all_bundles goods) r.0 (all_bundles_are goods) t.0);
      chosen = ap passes e ∙ t.1;
      price = ap (λ (z : Atom (List ℕ)). z.price) r.2 ∙ ap value (sym e);
    }

pub points_where-has : (passes : List ℕ → Bool) (value : List ℕ → ℕ) (goods : ℕ) (a : Atom (List ℕ)) → IsPoint passes value goods a
    → Contains (points_where passes value goods) a
unfolding points_where
points_where-has passes value goods a p =
    let f : List ℕ → Atom (List ℕ) = λ bundle. record { bundle = bundle; price = value bundle } in
    let c = Contains-map f (filter passes (all_bundles goods)) a.bundle
    (Contains-filter passes (all_bundles goods) a.bundle (all_bundles_has goods a.bundle p.bundle) p.chosen) in
    let e : f a.bundle ≡ a = ap (λ n. record { bundle = a.bundle; price = n }) (sym p.price) in
    subst (λ (z : Atom (List ℕ)). Contains (points_where passes value goods) z) e c

-- points are chosen by what the tests and values say of bundles over the goods
pub points_where-same : (p q : List ℕ → Bool) (v w : List ℕ → ℕ) (goods : ℕ) → ((bundle : List ℕ) → IsBundle goods bundle → p bundle ≡ q bundle)
    → ((bundle : List ℕ) → IsBundle goods bundle → v bundle ≡ w bundle) → points_where p v goods ≡ points_where q w goods
unfolding points_where
points_where-same p q v w goods h k =
    let f : List ℕ → Atom (List ℕ) = λ bundle. record { bundle = bundle; price = v bundle } in
    ap (map f) (filter_same_on p q (all_bundles goods) (λ i d l. h _ (all_bundles_are goods i d l)))
    ∙ maps (filter q (all_bundles goods)) (All-from_Contains (λ bundle. v bundle ≡ w bundle) (filter q (all_bundles goods))
    (λ bundle c. k bundle (All-contains (IsBundle goods) (all_bundles goods) bundle (all_bundles_are goods)
    (Contains-filter_parts q (all_bundles goods) bundle c).0)))
  where
    maps : (bundles : List (List ℕ)) → All (λ bundle. v bundle ≡ w bundle) bundles
        → map {B = Atom (List ℕ)} (λ bundle. record { bundle = bundle; price = v bundle }) bundles
        ≡ map {B = Atom (List ℕ)} (λ bundle. record { bundle = bundle; price = w bundle }) bundles
    maps [] e = refl
    maps (b ∷ bs) e =
        ap₂ (λ (n : ℕ) (zs : List (Atom (List ℕ))). record { bundle = b; price = n } ∷ zs) (All-head (λ bundle. v bundle ≡ w bundle) b bs e)
        (maps bs (All-tail (λ bundle. v bundle ≡ w bundle) b bs e))

pub IsXorPoint-from_test : (atoms : List (Atom (List ℕ))) (bundle : List ℕ) → is_xor_point atoms bundle ≡ true → IsXorPoint atoms bundle
unfolding is_xor_point
IsXorPoint-from_test atoms bundle e = grind (arith, common_steps, and_parts, ltb-true, list_all_at)

pub is_xor_point-true : (atoms : List (Atom (List ℕ))) (bundle : List ℕ) → IsXorPoint atoms bundle → is_xor_point atoms bundle ≡ true
unfolding is_xor_point
is_xor_point-true atoms bundle p = search (rules, and_from, lt-ltb, list_all_from)

pub is_part-true : (part bundle : List ℕ) → IsPart part bundle → is_part part bundle ≡ true
is_part-true part bundle p = search (rules, and_from, lt-ltb, not_from_false)

pub IsPart-from_test : (part bundle : List ℕ) → IsRising part → is_part part bundle ≡ true → IsPart part bundle
IsPart-from_test part bundle r e = search (rules, and_parts, ltb-true, not-true)

-- what is inside a bundle over the goods has goods of these alone
pub inside_below : (goods : ℕ) (part bundle : List ℕ) → AreBelow goods bundle → IsInside part bundle → AreBelow goods part
inside_below goods part bundle b i = AreBelow-from_has goods part (λ g h. has_below goods bundle g b (inside_at part bundle g i h))

pub IsOrPoint-from_test : (goods : ℕ) (atoms : List (Atom (List ℕ))) (bundle : List ℕ) → IsBundle goods bundle → is_or_point goods atoms bundle ≡ true
    → IsOrPoint atoms bundle
unfolding is_or_point
IsOrPoint-from_test goods atoms bundle b e =
    let less = λ (part : List ℕ). ltb (or_value atoms part + or_value atoms (without bundle part)) (or_value atoms bundle) in
    let all = filter (λ part. is_part part bundle) (all_bundles goods) in
    let parts = and_parts (ltb 0 (or_value atoms bundle)) (list_all less all) e in
    record {
      positive = ltb-true 0 (or_value atoms bundle) parts.0;
      split = λ part p. ltb-true _ _
          (list_all_at less all parts.1 part (Contains-filter (λ part. is_part part bundle) (all_bundles goods) part
          (all_bundles_has goods part (p.rising, inside_below goods part bundle b.1 p.inside)) (is_part-true part bundle p)));
    }

pub is_or_point-true : (goods : ℕ) (atoms : List (Atom (List ℕ))) (bundle : List ℕ) → IsOrPoint atoms bundle → is_or_point goods atoms bundle ≡ true
unfolding is_or_point
is_or_point-true goods atoms bundle p =
    let less = λ (part : List ℕ). ltb (or_value atoms part + or_value atoms (without bundle part)) (or_value atoms bundle) in
    let all = filter (λ part. is_part part bundle) (all_bundles goods) in
    and_from (ltb 0 (or_value atoms bundle)) (list_all less all) (lt-ltb 0 (or_value atoms bundle) p.positive) (list_all_from less all (λ part c.
    let r = Contains-filter_parts (λ part. is_part part bundle) (all_bundles goods) part c in
    lt-ltb _ _ (p.split part (IsPart-from_test part bundle (All-contains (IsBundle goods) (all_bundles goods) part (all_bundles_are goods) r.0).0 r.1))))

-- a bundle that is no point has no value, or splits into two parts without loss
pub no_or_point : (goods : ℕ) (atoms : List (Atom (List ℕ))) (bundle : List ℕ) → is_or_point goods atoms bundle ≡ false → (or_value atoms bundle ≡ 0)
    ⊎ ((part : List ℕ) × IsPart part bundle × (or_value atoms bundle ≤ or_value atoms part + or_value atoms (without bundle part)))
unfolding is_or_point
no_or_point goods atoms bundle e =
    let less = λ (part : List ℕ). ltb (or_value atoms part + or_value atoms (without bundle part)) (or_value atoms bundle) in
    let all = filter (λ part. is_part part bundle) (all_bundles goods) in
    ⊎_elim (λ (t : ltb 0 (or_value atoms bundle) ≡ false). let z : or_value atoms bundle ≤ 0 = ltb-false _ _ t in inl (omega arith))
    (λ (t : list_all less all ≡ false).
    let r = list_all_fails less all t in
    let q = Contains-filter_parts (λ part. is_part part bundle) (all_bundles goods) r.0 r.1 in
    inr (r.0, IsPart-from_test r.0 bundle (All-contains (IsBundle goods) (all_bundles goods) r.0 (all_bundles_are goods) q.0).0 q.1, ltb-false _ _ r.2))
    (and_cases (ltb 0 (or_value atoms bundle)) (list_all less all) e)

-- ---- which atoms are points

pub xor_points_are : (goods : ℕ) (atoms : List (Atom (List ℕ))) (a : Atom (List ℕ))
    → (Contains (xor_points goods atoms) a ↔ (IsBundle goods a.bundle × IsXorPoint atoms a.bundle × (a.price ≡ xor_value atoms a.bundle)))
xor_points_are goods atoms a = (
  λ c. let p = points_where-are (is_xor_point atoms) (xor_value atoms) goods a c in (p.bundle, IsXorPoint-from_test atoms a.bundle p.chosen, p.price),
  λ p. points_where-has (is_xor_point atoms) (xor_value atoms) goods a (record { bundle = p.0; chosen = is_xor_point-true atoms a.bundle p.1; price = p.2 }),
)

pub or_points_are : (goods : ℕ) (atoms : List (Atom (List ℕ))) (a : Atom (List ℕ))
    → (Contains (or_points goods atoms) a ↔ (IsBundle goods a.bundle × IsOrPoint atoms a.bundle × (a.price ≡ or_value atoms a.bundle)))
or_points_are goods atoms a = (
  λ c. let p = points_where-are (is_or_point goods atoms) (or_value atoms) goods a c in (
    p.bundle,
    IsOrPoint-from_test goods atoms a.bundle p.bundle p.chosen,
    p.price,
  ),
  search (rules, points_where-has, is_or_point-true),
)
