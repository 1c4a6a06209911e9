-- The first change of two lists of points. The idea: on the bundles before it both lists have the same bids, so the OR values there are
-- equal; and on its bundle one list has a point that the other does not have, or has at another price.
use Rattle.std.proofs.Common.{◌≡◌, ℕ, ◌<◌, false, cond, ◌⊎◌, inl, inr, ⊎_elim, List, [], ◌∷◌, map, refl, sym, ap, ◌∙◌, subst, arith, Option}
use Rattle.std.proofs.Common.{Some, None, Less, Bool, rules}
use Rattle.std.specs.Prelude.{All, Contains}
use Rattle.std.specs.List.{filter, find}
use Rattle.std.specs.Ordering.{is_eq}
use Rattle.std.proofs.lemmas.Bool.{cases_Bool, cond-true, cond-false, eqb-true, eqb-false}
use Rattle.std.proofs.lemmas.List.Elements.{All-contains, All-head}
use Rattle.std.proofs.lemmas.List.Kept.{AllPairs-filter}
use Rattle.goods_set.specs.Bundles.{IsRising, IsBundle, is_inside, all_bundles}
use Rattle.goods_set.specs.Lemmas.Orders.{bundle_cmp_total, bundle_cmp_refl, inside_ordered}
use Rattle.goods_set.specs.Orders.{bundle_cmp}
use Rattle.valuation.specs.declared.atom.Atom.{Atom}
use Rattle.valuation.specs.Lemmas.Lists.{AllPairs-head, AllPairs-tail, Contains-cons_cases, Contains-unmap}
use Rattle.valuation.specs.Lemmas.OrValues.{or_value-filter}
use Rattle.valuation.specs.Values.{or_value}
use Rattle.prune.specs.InOrder.{IsBefore, IsInOrder}
use Rattle.prune.specs.Lemmas.InOrder.{before_itself, before_both, same_cases, same_in_order}
use Rattle.prune.specs.Lemmas.Lists.{Contains-nil, Contains-head, Contains-tail, Contains-filter, Contains-filter_parts}
use Rattle.prune.specs.Lemmas.OnBundles.{IsOnBundle}
use Rattle.prune.specs.Lemmas.Points.{is_or_point-true}
use Rattle.prune.specs.Points.{is_or_point, IsOrPoint}
use Rattle.canon.specs.Lemmas.OrDifferences.{are_unequal, AgreeBefore, IsFirstUnequal, first_unequal_found, less_without_point, ArePoints, in_order, point_of}
use Rattle.canon.specs.Lemmas.OrDifferences.{point_there}
use Rattle.canon.specs.Internal.PriceWalks.{side_at}
use Rattle.canon.specs.Lemmas.PriceChanges.{IsEarlier}
use Rattle.canon.specs.PriceChanges.{PlainChange, price_on, IsPriceChange, ArePriceChanges}
use Rattle.canon.specs.declared.verdict.Side.{Side}
use Rattle.canon.specs.declared.verdict.Side.TheVariants.{Exactly, Below}
use Rattle.std.proofs.lemmas.Grind.{common_steps}

-- ---- the price on a bundle

-- the first bid on the bundle of a bid is that bid
pub price_of_bid : (atoms : List (Atom (List ℕ))) → IsInOrder atoms → (a : Atom (List ℕ)) → Contains atoms a → price_on atoms a.bundle ≡ Some a.price
price_of_bid [] s a c = absurd (Contains-nil a c)
price_of_bid (x ∷ xs) s a c = ⊎_elim (search (rules, bundle_cmp_refl)) (λ (d : Contains xs a).
    let behind : is_eq (bundle_cmp x.bundle a.bundle) ≡ false = ap is_eq (All-contains (IsBefore x) xs a (AllPairs-head IsBefore x xs s) d) in
    ap (λ (t : Bool). cond {A = Option ℕ} t (Some x.price) (price_on xs a.bundle)) behind ∙ price_of_bid xs (AllPairs-tail IsBefore x xs s) a d)
    (Contains-cons_cases x xs a c)

pub bid_of_price : (atoms : List (Atom (List ℕ))) (bundle : List ℕ) (price : ℕ) → price_on atoms bundle ≡ Some price
    → Contains atoms (record { bundle = bundle; price = price })
bid_of_price [] bundle price e = absurd (cc)
bid_of_price (x ∷ xs) bundle price e = ⊎_elim (search (rules, Contains-head))
    (λ (behind : (x.bundle ≡ bundle → ⊥) × (is_eq (bundle_cmp x.bundle bundle) ≡ false)). Contains-tail x xs (record { bundle = bundle; price = price })
    (bid_of_price xs bundle price (sym (ap (λ (t : Bool). cond {A = Option ℕ} t (Some x.price) (price_on xs bundle)) behind.1) ∙ e)))
    (same_cases x.bundle bundle)

pub same_price_cases : (p q : Option ℕ) → (p ≡ q) ⊎ (p ≡ q → ⊥)
same_price_cases None None = inl refl
same_price_cases None (Some n) = inr (λ e. cc)
same_price_cases (Some m) None = inr (λ e. cc)
same_price_cases (Some m) (Some n) = search (rules, eqb-true, eqb-false, cases_Bool)

-- ---- no change

module _ (one other : List (Atom (List ℕ))) (changes : List PlainChange) (are : ArePriceChanges one other changes) where
  -- a bundle without a change has one price
  same_price : (bundle : List ℕ) → (Contains (map (λ (c : PlainChange). c.bundle) changes) bundle → ⊥) → price_on one bundle ≡ price_on other bundle
  same_price bundle none = grind (arith, common_steps, same_price_cases)

pub same_bids : (one other : List (Atom (List ℕ))) → IsInOrder one → IsInOrder other → ArePriceChanges one other [] → one ≡ other
same_bids one other s t are =
    let same : (bundle : List ℕ) → price_on one bundle ≡ price_on other bundle = λ bundle. same_price one other [] are bundle (Contains-nil bundle) in
    same_in_order one other s t
    (λ a c. bid_of_price other a.bundle a.price (sym (same a.bundle) ∙ price_of_bid one s a c))
    (λ a c. bid_of_price one a.bundle a.price (same a.bundle ∙ price_of_bid other t a c))

-- ---- before the first change

-- the prices agree on the bundles before this one
record SamePricesBefore (one other : List (Atom (List ℕ))) (bundle : List ℕ) : Type 0 where
  same : (earlier : List ℕ) → bundle_cmp earlier bundle ≡ Less → price_on one earlier ≡ price_on other earlier

back : (one other : List (Atom (List ℕ))) (bundle : List ℕ) → SamePricesBefore one other bundle → SamePricesBefore other one bundle
back one other bundle h = record { same = λ earlier l. sym (h.same earlier l) }

before_first : (one other : List (Atom (List ℕ))) (c : PlainChange) (rest : List PlainChange) → ArePriceChanges one other (c ∷ rest)
    → SamePricesBefore one other c.bundle
before_first one other c rest are = record { same = λ earlier l. same_price one other (c ∷ rest) are earlier (not_there earlier l) }
  where
    not_there : (earlier : List ℕ) → bundle_cmp earlier c.bundle ≡ Less → Contains (map (λ (d : PlainChange). d.bundle) (c ∷ rest)) earlier → ⊥
    not_there earlier l there =
        ⊎_elim (λ (e : c.bundle ≡ earlier). before_itself earlier (subst (λ (b : List ℕ). bundle_cmp earlier b ≡ Less) e l))
        (λ (behind : Contains (map (λ (d : PlainChange). d.bundle) rest) earlier).
        let found = Contains-unmap (λ (d : PlainChange). d.bundle) rest earlier behind in
        let later = All-contains (IsEarlier c) rest found.0 (AllPairs-head IsEarlier c rest are.in_order) found.1 in
        before_both earlier c.bundle l (subst (λ (b : List ℕ). bundle_cmp c.bundle b ≡ Less) (sym found.2) later))
        (Contains-cons_cases c.bundle (map (λ (d : PlainChange). d.bundle) rest) earlier there)

module _ (goods : ℕ) where
  -- a bid inside a bundle before this one is in both lists
  inside_both : (one other : List (Atom (List ℕ))) → All (IsOnBundle goods) one → IsInOrder one → (bundle : List ℕ) → SamePricesBefore one other bundle
      → (earlier : List ℕ) → IsRising earlier → bundle_cmp earlier bundle ≡ Less → (a : Atom (List ℕ))
      → Contains (filter (λ z. is_inside z.bundle earlier) one) a → Contains (filter (λ z. is_inside z.bundle earlier) other) a
  inside_both one other on s bundle h earlier rising l a c =
      let there = Contains-filter_parts (λ z. is_inside z.bundle earlier) one a c in
      let own = (All-contains (IsOnBundle goods) one a on there.0).bundle in
      let first : bundle_cmp a.bundle bundle ≡ Less =
      ⊎_elim (λ (m : bundle_cmp a.bundle earlier ≡ Less). bundle_cmp_total.trans a.bundle earlier bundle m l)
      (λ (e : a.bundle ≡ earlier). subst (λ (b : List ℕ). bundle_cmp b bundle ≡ Less) (sym e) l)
      (inside_ordered a.bundle earlier own.0 rising there.1) in
      Contains-filter (λ z. is_inside z.bundle earlier) other a
      (bid_of_price other a.bundle a.price (sym (h.same a.bundle first) ∙ price_of_bid one s a there.0)) there.1

  agree_before : (one other : List (Atom (List ℕ))) → ArePoints goods one → ArePoints goods other → (bundle : List ℕ)
      → SamePricesBefore one other bundle → AgreeBefore goods one other bundle
  agree_before one other points also bundle h = record { agree = λ earlier b l. values earlier b.0 l }
    where
      values : (earlier : List ℕ) → IsRising earlier → bundle_cmp earlier bundle ≡ Less → or_value one earlier ≡ or_value other earlier
      values earlier rising l =
          let p : Atom (List ℕ) → Bool = λ z. is_inside z.bundle earlier in
          let s = in_order goods one points in
          let t = in_order goods other also in
          let same : filter p one ≡ filter p other =
          same_in_order (filter p one) (filter p other) (AllPairs-filter IsBefore p one s) (AllPairs-filter IsBefore p other t)
          (inside_both one other points.on s bundle h earlier rising l)
          (inside_both other one also.on t bundle (back one other bundle h) earlier rising l) in
          sym (or_value-filter p one earlier (λ a i. i)) ∙ ap (λ (zs : List (Atom (List ℕ))). or_value zs earlier) same
          ∙ or_value-filter p other earlier (λ a i. i)

  -- ---- on its bundle

  no_point : (atoms : List (Atom (List ℕ))) → ArePoints goods atoms → (bundle : List ℕ) → IsBundle goods bundle → price_on atoms bundle ≡ None
      → is_or_point goods atoms bundle ≡ false
  no_point atoms points bundle b none = search (rules, price_of_bid, in_order, point_of)

  -- a bid on the bundle is a point, at its price
  point_on : (atoms : List (Atom (List ℕ))) → ArePoints goods atoms → (bundle : List ℕ) (price : ℕ) → price_on atoms bundle ≡ Some price
      → IsBundle goods bundle × IsOrPoint atoms bundle × (price ≡ or_value atoms bundle)
  point_on atoms points bundle price some = search (rules, point_there, bid_of_price)

  -- where only one list has a bid, that list has the greater value
  point_of_one : (one other : List (Atom (List ℕ))) → ArePoints goods one → ArePoints goods other → (bundle : List ℕ)
      → SamePricesBefore one other bundle → (price : ℕ) → price_on one bundle ≡ Some price → price_on other bundle ≡ None
      → IsBundle goods bundle × (or_value other bundle < or_value one bundle)
  point_of_one one other points also bundle h price mine theirs =
      let point = point_on one points bundle price mine in search (rules, less_without_point, agree_before, no_point)

  -- what is reported of the first list's value on the bundle
  abbrev pub or_side : List (Atom (List ℕ)) → List (Atom (List ℕ)) → List ℕ → Side
  or_side own other bundle = cond (is_or_point goods own bundle) (Exactly (or_value own bundle)) (Below (or_value other bundle))

  pub side_of_change : (one other : List (Atom (List ℕ))) → ArePoints goods one → ArePoints goods other → (bundle : List ℕ) (p q : Option ℕ)
      → price_on one bundle ≡ p → price_on other bundle ≡ q → (p ≡ q → ⊥) → or_side one other bundle ≡ side_at p q
  side_of_change one other points also bundle None None mine theirs n = absurd (n refl)
  side_of_change one other points also bundle None (Some q) mine theirs n = search (rules, point_on, cond-false, no_point)
  side_of_change one other points also bundle (Some p) q mine theirs n = search (rules, point_on, cond-true, is_or_point-true)

  pub first_change_found : (one other : List (Atom (List ℕ))) → ArePoints goods one → ArePoints goods other → (c : PlainChange) (rest : List PlainChange)
      → ArePriceChanges one other (c ∷ rest) → find (are_unequal one other) (all_bundles goods) ≡ Some c.bundle
  first_change_found one other points also c rest are =
      let change = All-head (IsPriceChange one other) c rest are.each in
      first_unequal_found goods one other c.bundle (by c.left c.right (sym change.on_left) (sym change.on_right) change.differ)
    where
      before : SamePricesBefore one other c.bundle
      before = before_first one other c rest are

      by : (left right : Option ℕ) → price_on one c.bundle ≡ left → price_on other c.bundle ≡ right → (left ≡ right → ⊥)
          → IsFirstUnequal goods one other c.bundle
      by None None mine theirs n = absurd (n refl)
      by (Some p) None mine theirs n =
          let point = point_of_one one other points also c.bundle before p mine theirs in
          let less = point.1 in
          record { within = point.0; earlier = agree_before one other points also c.bundle before; differ = λ e. omega arith }
      by None (Some q) mine theirs n =
          let point = point_of_one other one also points c.bundle (back one other c.bundle before) q theirs mine in
          let less = point.1 in
          record { within = point.0; earlier = agree_before one other points also c.bundle before; differ = λ e. omega arith }
      by (Some p) (Some q) mine theirs n =
          let point = point_on one points c.bundle p mine in
          let theirs_too = point_on other also c.bundle q theirs in
          record {
            within = point.0;
            earlier = agree_before one other points also c.bundle before;
            differ = λ e. n (ap Some (point.2 ∙ e ∙ sym theirs_too.2));
          }
