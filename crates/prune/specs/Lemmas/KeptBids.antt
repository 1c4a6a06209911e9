-- The points by OR and XOR values: what `ValuePoints` asks of a value holds of both. The idea: a value above 0 is reached with
-- some atom, which is either on the whole bundle, or one part of a split of it, or lacks one of its goods.
use Rattle.std.proofs.Common.{rules, ◌≡◌, ℕ, zero, ◌+◌, ◌<◌, ◌≤◌, true, false, ◌⊎◌, inl, inr, ⊎_elim, List, [], ◌∷◌, length, refl, ap}
use Rattle.std.proofs.Common.{eqb, arith}
use Rattle.std.specs.Prelude.{All, Contains}
use Rattle.std.proofs.lemmas.Bool.{cases_Bool, eqb-true, eq-eqb, both_ways, and_from, and_cases, ltb-false, not_from_false, false_from_ne_true}
use Rattle.std.proofs.lemmas.List.Elements.{All-contains, All-weaker}
use Rattle.goods_set.specs.Bundles.{IsBundle, has_good, is_inside, IsInside, without}
use Rattle.goods_set.specs.Lemmas.Members.{has_head, has_cases, inside_at, inside_from, inside_refl, inside_trans, inside_antisymm, apart_from}
use Rattle.goods_set.specs.Lemmas.Members.{has_without_parts, without_inside, inside_without, IsBundle-without}
use Rattle.goods_set.specs.Lemmas.Sizes.{without_all}
use Rattle.valuation.specs.declared.atom.Atom.{Atom}
use Rattle.valuation.specs.Auctions.{IsAtom}
use Rattle.valuation.specs.Values.{xor_value, or_value}
use Rattle.valuation.specs.Lemmas.XorValues.{xor_value-grows}
use Rattle.valuation.specs.Lemmas.OrValues.{or_value-split, or_value-empty, or_value-price, or_value-filter_le, ReachesValue-some}
use Rattle.prune.specs.Lemmas.OnBundles.{IsOnBundle}
use Rattle.prune.specs.Points.{is_xor_point, xor_points, is_or_point, or_points, IsPart}
use Rattle.prune.specs.SearchSteps.{is_below}
use Rattle.prune.specs.Lemmas.Lists.{list_all_fails, list_any_found, list_any_has}
use Rattle.prune.specs.Lemmas.Values.{xor_value-member, xor_value-dominated, xor_value-reached, xor_value-filter_on, or_value-dominated}
use Rattle.prune.specs.Lemmas.Values.{or_value-filter_on, xor_value-more, xor_value-fewer, or_value-more}
use Rattle.prune.specs.Lemmas.ValuePoints.{IsValue, points_are_atoms, points_on, points_same, points_keep_values, points_again}
use Rattle.prune.specs.Lemmas.ValuePoints.{points_any_goods}
use Rattle.prune.specs.Lemmas.Points.{IsXorPoint-from_test, is_xor_point-true}
use Rattle.prune.specs.Lemmas.Points.{inside_below, IsOrPoint-from_test, is_or_point-true, no_or_point}

-- atoms over the goods are on bundles; their prices do not matter here
pub on_bundles : (goods : ℕ) (atoms : List (Atom (List ℕ))) → All (IsAtom goods) atoms → All (IsOnBundle goods) atoms
on_bundles goods atoms are = All-weaker (IsAtom goods) (IsOnBundle goods) (λ a i. record { nonempty = i.nonempty; bundle = i.bundle }) atoms are

pub all_nonempty : (goods : ℕ) (atoms : List (Atom (List ℕ))) → All (IsOnBundle goods) atoms → All (λ a. 0 < length a.bundle) atoms
all_nonempty goods atoms on = All-weaker (IsOnBundle goods) (λ a. 0 < length a.bundle) (λ a o. o.nonempty) atoms on

pub just_bundles : (goods : ℕ) (atoms : List (Atom (List ℕ))) → All (IsOnBundle goods) atoms → All (λ a. IsBundle goods a.bundle) atoms
just_bundles goods atoms on = All-weaker (IsOnBundle goods) (λ a. IsBundle goods a.bundle) (λ a o. o.bundle) atoms on

-- ---- what is properly inside a bundle

pub has_from_contains : (xs : List ℕ) (g : ℕ) → Contains xs g → has_good xs g ≡ true
has_from_contains xs g c = list_any_has (λ x. eqb x g) xs g c (eq-eqb g g refl)

pub contains_from_has : (xs : List ℕ) (g : ℕ) → has_good xs g ≡ true → Contains xs g
contains_from_has xs g h = search (rules, list_any_found, eqb-true)

-- what a nonempty part leaves is not the whole
pub left_is_proper : (part bundle : List ℕ) → 0 < length part → IsInside part bundle → is_inside bundle (without bundle part) ≡ false
left_is_proper [] bundle l i = absurd (omega arith)
left_is_proper (x ∷ xs) bundle l i =
    false_from_ne_true (is_inside bundle (without bundle (x ∷ xs))) (λ j.
    both_ways (has_good (x ∷ xs) x)
    (has_without_parts bundle (x ∷ xs) x (inside_at bundle (without bundle (x ∷ xs)) x j (inside_at (x ∷ xs) bundle x i (has_head x xs)))).1
    (has_head x xs))

-- an atom inside what is properly inside the bundle is below the bundle
below_from_inside : (xs proper bundle : List ℕ) → IsInside proper bundle → is_inside bundle proper ≡ false → IsInside xs proper → is_below xs bundle ≡ true
below_from_inside xs proper bundle i n j = search (rules, and_from, inside_trans, not_from_false, false_from_ne_true, both_ways)

pub all_below : (atoms : List (Atom (List ℕ))) (proper bundle : List ℕ) → IsInside proper bundle → is_inside bundle proper ≡ false
    → All (λ a. IsInside a.bundle proper → is_below a.bundle bundle ≡ true) atoms
all_below atoms proper bundle i n k d l j = below_from_inside _ proper bundle i n j

-- ---- OR

or_reached : (goods : ℕ) (atoms : List (Atom (List ℕ))) → All (IsOnBundle goods) atoms → (bundle : List ℕ) → IsBundle goods bundle
    → 0 < or_value atoms bundle → ((a : Atom (List ℕ)) × Contains atoms a × (a.bundle ≡ bundle) × (or_value atoms bundle ≤ a.price))
    ⊎ ((part : List ℕ) × IsPart part bundle × (or_value atoms bundle ≤ or_value atoms part + or_value atoms (without bundle part)))
or_reached goods atoms on bundle b l =
    let r = ReachesValue-some atoms bundle l in
    let there = All-contains (IsOnBundle goods) atoms r.0 on r.1.member in
    let reaches = r.1.reaches in
    ⊎_elim (λ (i : is_inside bundle r.0.bundle ≡ true).
    let none : or_value atoms (without bundle r.0.bundle) ≡ or_value atoms [] = ap (or_value atoms) (without_all bundle r.0.bundle i) in
    let zero : or_value atoms [] ≡ 0 = or_value-empty atoms (all_nonempty goods atoms on) in
    inl (r.0, r.1.member, inside_antisymm r.0.bundle bundle there.bundle.0 b.0 r.1.inside i, omega arith))
    (λ (n : is_inside bundle r.0.bundle ≡ false).
    let own : r.0.price ≤ or_value atoms r.0.bundle = or_value-price atoms r.0 r.1.member r.0.bundle (inside_refl r.0.bundle) in
    inr (r.0.bundle, record { rising = there.bundle.0; nonempty = there.nonempty; inside = r.1.inside; proper = n }, omega arith))
    (cases_Bool (is_inside bundle r.0.bundle))

pub or_is_value : IsValue IsOnBundle or_value (λ bundle part. IsPart part bundle) (λ v bundle part. v part + v (without bundle part)) is_or_point
or_is_value = record {
  from_test = λ goods atoms bundle b t. let p = IsOrPoint-from_test goods atoms bundle b t in (p.positive, p.split);
  test_true = λ goods atoms bundle l s. is_or_point-true goods atoms bundle (record { positive = l; split = s });
  test_false = no_or_point;
  on = λ goods a o. o.bundle;
  member = or_value-price;
  more = or_value-more;
  fewer = or_value-filter_le;
  below = λ atoms proper bundle i n. or_value-filter_on (λ a. is_below a.bundle bundle) atoms proper (all_below atoms proper bundle i n);
  grows = λ v w goods bundle part b p more.
      let first = more part (p.rising, inside_below goods part bundle b.1 p.inside) p.inside p.proper in
      let second = more (without bundle part) (IsBundle-without goods bundle part b) (without_inside bundle part)
      (left_is_proper part bundle p.nonempty p.inside) in
      omega arith;
  adds = λ goods atoms on bundle part p. or_value-split atoms (all_nonempty goods atoms on) part bundle p.inside;
  reached = or_reached;
  dominated = λ goods other atoms on. or_value-dominated other (all_nonempty goods other on) atoms;
}

-- ---- XOR

-- a good less leaves a bundle that is not the whole
pub good_inside : (good : ℕ) (bundle : List ℕ) → Contains bundle good → IsInside (good ∷ []) bundle
good_inside good bundle c = search (rules, inside_from, has_from_contains, both_ways, has_cases)

good_less_is_proper : (good : ℕ) (bundle : List ℕ) → Contains bundle good → is_inside bundle (without bundle (good ∷ [])) ≡ false
good_less_is_proper good bundle c = left_is_proper (good ∷ []) bundle (omega arith) (good_inside good bundle c)

-- what is inside a bundle and lacks a good is inside what is left without that good
inside_good_less : (xs bundle : List ℕ) (good : ℕ) → IsInside xs bundle → has_good xs good ≡ false → IsInside xs (without bundle (good ∷ []))
inside_good_less xs bundle good i n = inside_without xs bundle (good ∷ []) i (search (rules, apart_from, false_from_ne_true, both_ways, has_cases))

xor_reached : (goods : ℕ) (atoms : List (Atom (List ℕ))) → All (λ a. IsBundle goods a.bundle) atoms → (bundle : List ℕ) → IsBundle goods bundle
    → 0 < xor_value atoms bundle → ((a : Atom (List ℕ)) × Contains atoms a × (a.bundle ≡ bundle) × (xor_value atoms bundle ≤ a.price))
    ⊎ ((good : ℕ) × Contains bundle good × (xor_value atoms bundle ≤ xor_value atoms (without bundle (good ∷ []))))
xor_reached goods atoms on bundle b l =
    let r = xor_value-reached atoms bundle l in
    let price = r.3 in
    ⊎_elim (λ (i : is_inside bundle r.0.bundle ≡ true).
    let there = All-contains (λ a. IsBundle goods a.bundle) atoms r.0 on r.1 in
    inl (r.0, r.1, inside_antisymm r.0.bundle bundle there.0 b.0 r.2 i, omega arith))
    (λ (n : is_inside bundle r.0.bundle ≡ false).
    let g = list_all_fails (λ good. has_good r.0.bundle good) bundle n in
    let own = xor_value-member atoms r.0 r.1 (without bundle (g.0 ∷ [])) (inside_good_less r.0.bundle bundle g.0 r.2 g.2) in
    inr (g.0, g.1, omega arith))
    (cases_Bool (is_inside bundle r.0.bundle))

-- a bundle that is no point has no value, or has it without some good
no_xor_point : (atoms : List (Atom (List ℕ))) (bundle : List ℕ) → is_xor_point atoms bundle ≡ false → (xor_value atoms bundle ≡ 0)
    ⊎ ((good : ℕ) × Contains bundle good × (xor_value atoms bundle ≤ xor_value atoms (without bundle (good ∷ []))))
unfolding is_xor_point
no_xor_point atoms bundle e = search (rules, ltb-false, list_all_fails, and_cases)

pub xor_is_value : IsValue (λ goods a. IsBundle goods a.bundle) xor_value (λ bundle good. Contains bundle good)
    (λ v bundle good. v (without bundle (good ∷ []))) (λ goods. is_xor_point)
xor_is_value = record {
  from_test = λ goods atoms bundle b t. let p = IsXorPoint-from_test atoms bundle t in (p.positive, p.less);
  test_true = λ goods atoms bundle l s. is_xor_point-true atoms bundle (record { positive = l; less = s });
  test_false = λ goods. no_xor_point;
  on = λ goods a b. b;
  member = xor_value-member;
  more = xor_value-more;
  fewer = xor_value-fewer;
  below = λ atoms proper bundle i n. xor_value-filter_on (λ a. is_below a.bundle bundle) atoms proper (all_below atoms proper bundle i n);
  grows = λ v w goods bundle good b c more.
      more (without bundle (good ∷ [])) (IsBundle-without goods bundle (good ∷ []) b) (without_inside bundle (good ∷ []))
      (left_is_proper (good ∷ []) bundle (omega arith) (good_inside good bundle c));
  adds = λ goods atoms on bundle good c. xor_value-grows atoms (without bundle (good ∷ [])) bundle (without_inside bundle (good ∷ []));
  reached = xor_reached;
  dominated = λ goods other atoms on. xor_value-dominated other atoms;
}

-- ---- points of either kind

pub or_points_are_atoms : (goods : ℕ) (atoms : List (Atom (List ℕ))) → All (IsOnBundle goods) atoms → All (Contains atoms) (or_points goods atoms)
or_points_are_atoms = points_are_atoms or_is_value

pub xor_points_are_atoms : (goods : ℕ) (atoms : List (Atom (List ℕ))) → All (λ a. IsBundle goods a.bundle) atoms → All (Contains atoms) (xor_points goods atoms)
xor_points_are_atoms = points_are_atoms xor_is_value

pub or_points_same : (goods : ℕ) (one other : List (Atom (List ℕ)))
    → ((bundle : List ℕ) → IsBundle goods bundle → or_value one bundle ≡ or_value other bundle) → or_points goods one ≡ or_points goods other
or_points_same = points_same or_is_value

pub xor_points_same : (goods : ℕ) (one other : List (Atom (List ℕ)))
    → ((bundle : List ℕ) → IsBundle goods bundle → xor_value one bundle ≡ xor_value other bundle) → xor_points goods one ≡ xor_points goods other
xor_points_same = points_same xor_is_value

pub or_points_keep_values : (goods : ℕ) (atoms : List (Atom (List ℕ))) → All (IsOnBundle goods) atoms → (bundle : List ℕ) → IsBundle goods bundle
    → or_value (or_points goods atoms) bundle ≡ or_value atoms bundle
or_points_keep_values = points_keep_values or_is_value

pub xor_points_keep_values : (goods : ℕ) (atoms : List (Atom (List ℕ))) → All (λ a. IsBundle goods a.bundle) atoms → (bundle : List ℕ) → IsBundle goods bundle
    → xor_value (xor_points goods atoms) bundle ≡ xor_value atoms bundle
xor_points_keep_values = points_keep_values xor_is_value

pub or_points_again : (goods : ℕ) (atoms : List (Atom (List ℕ))) → All (IsOnBundle goods) atoms
    → or_points goods (or_points goods atoms) ≡ or_points goods atoms
or_points_again = points_again or_is_value

pub xor_points_again : (goods : ℕ) (atoms : List (Atom (List ℕ))) → All (λ a. IsBundle goods a.bundle) atoms
    → xor_points goods (xor_points goods atoms) ≡ xor_points goods atoms
xor_points_again = points_again xor_is_value

pub or_points_on_bundles : (goods : ℕ) (atoms : List (Atom (List ℕ))) → All (IsOnBundle goods) atoms → All (IsOnBundle goods) (or_points goods atoms)
or_points_on_bundles = points_on or_is_value

pub or_points_any_goods : (fewer more : ℕ) (atoms : List (Atom (List ℕ))) → All (IsOnBundle fewer) atoms → All (IsOnBundle more) atoms
    → or_points fewer atoms ≡ or_points more atoms
or_points_any_goods = points_any_goods or_is_value

pub xor_points_any_goods : (fewer more : ℕ) (atoms : List (Atom (List ℕ))) → All (IsOnBundle fewer) atoms → All (IsOnBundle more) atoms
    → xor_points fewer atoms ≡ xor_points more atoms
xor_points_any_goods fewer more atoms on there = points_any_goods xor_is_value fewer more atoms (just_bundles fewer atoms on) (just_bundles more atoms there)
