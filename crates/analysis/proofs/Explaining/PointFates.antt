-- A bidder's points are its best bids that are kept. The idea: if the points below a bundle do not reach its greatest price, then some point
-- is on the bundle, since all points do; and the points below a point do not reach its price.
use Rattle.analysis.proofs.Common.{[], rules, ◌≡◌, ℕ, ◌<◌, ◌≤◌, true, false, not, ltb, leb, ⊎_elim, List, ◌∷◌, None, is_none, refl, sym, ap₂, subst}
use Rattle.analysis.proofs.Common.{arith, All, Contains, filter, cases_Bool, both_ways, and_from, and_parts, leb-true, lt-leb, ltb-true, lt-ltb}
use Rattle.analysis.proofs.Common.{cases_lt, not_from_false, not-true, false_from_ne_true, get_or_default, All-contains, Contains-get_or, AllPairs-filter, Atom}
use Rattle.analysis.proofs.Common.{IsBundle, IsInside, has_good, is_inside, apart_from, has_cases, inside_refl, atom_at, or_value, xor_value, or_value-price}
use Rattle.analysis.proofs.Common.{best_bids, indices_below, IsInOrder, is_or_point, or_points, xor_points, greatest_price, is_below, same_in_order, find_none}
use Rattle.analysis.proofs.Common.{or_points_are_atoms, xor_points_are_atoms, just_bundles, All-from_Contains, Contains-filter, Contains-filter_parts, le-leb}
use Rattle.analysis.proofs.Common.{found_none, IsOnBundle, or_points_are, points_where-in_order, xor_points_are, greatest_price-bound, greatest_price-member}
use Rattle.analysis.proofs.Common.{xor_value-member, without, inside_antisymm, inside_without, IsBundle-without, SearchKind, or_value-filter_le, atoms_below}
use Rattle.analysis.proofs.Common.{ReachesValue-some, or_points_keep_values, or_points_on_bundles, xor_points_keep_values, list_all_fails, points_where-are}
use Rattle.analysis.proofs.Common.{points_where-has, or_value-filter_on, xor_value-reached, range_contains, in_range}
use Rattle.prune.specs.Fates.{or_fate, xor_fate}
use Rattle.prune.specs.Points.{points_where}
use Rattle.analysis.proofs.Explaining.KeptBidsBest.{none_is}

same_atom : (a b : Atom (List ℕ)) → a.bundle ≡ b.bundle → a.price ≡ b.price → a ≡ b
same_atom a b e f = ap₂ (λ (xs : List ℕ) (n : ℕ). record { bundle = xs; price = n }) e f

-- ---- best bids

-- the greatest price on its bundle, above 0
pub record IsGreatest (goods : ℕ) (atoms : List (Atom (List ℕ))) (a : Atom (List ℕ)) : Type 0 where
  pub bundle : IsBundle goods a.bundle
  pub positive : 0 < a.price
  pub greatest : a.price ≡ greatest_price atoms a.bundle

best_bids_where : (goods : ℕ) (atoms : List (Atom (List ℕ)))
    → best_bids goods atoms ≡ points_where (λ bundle. ltb 0 (greatest_price atoms bundle)) (greatest_price atoms) goods
unfolding points_where
best_bids_where goods atoms = refl

pub best_bids-in_order : (goods : ℕ) (atoms : List (Atom (List ℕ))) → IsInOrder (best_bids goods atoms)
best_bids-in_order goods atoms = search (rules, best_bids_where, points_where-in_order)

pub best_bids-are : (goods : ℕ) (atoms : List (Atom (List ℕ))) (a : Atom (List ℕ)) → Contains (best_bids goods atoms) a → IsGreatest goods atoms a
best_bids-are goods atoms a c = let p = points_where-are (λ bundle. ltb 0 (greatest_price atoms bundle)) (greatest_price atoms) goods a
    (search (rules, best_bids_where)) in search (rules, ltb-true)

pub best_bids-has : (goods : ℕ) (atoms : List (Atom (List ℕ))) (a : Atom (List ℕ)) → IsGreatest goods atoms a → Contains (best_bids goods atoms) a
best_bids-has goods atoms a h = subst (λ (xs : List (Atom (List ℕ))). Contains xs a) (sym (best_bids_where goods atoms))
    (points_where-has (λ bundle. ltb 0 (greatest_price atoms bundle)) (greatest_price atoms) goods a (search (rules, lt-ltb, h)))

-- ---- below a bundle

pub below_parts : (small large : List ℕ) → is_below small large ≡ true → IsInside small large × (is_inside large small ≡ false)
below_parts small large t = search (rules, and_parts, not-true)

pub below_from : (small large : List ℕ) → IsInside small large → is_inside large small ≡ false → is_below small large ≡ true
below_from small large i n = and_from (is_inside small large) (not (is_inside large small)) i (not_from_false (is_inside large small) n)

-- ---- points are best bids

module _ (goods : ℕ) (atoms : List (Atom (List ℕ))) (on : All (IsOnBundle goods) atoms) where
  -- a point on the bundle of a best bid, whose price is not below it, is that bid
  point_is_best : (points : List (Atom (List ℕ))) → All (Contains atoms) points → (a p : Atom (List ℕ)) → IsGreatest goods atoms a → Contains points p
      → p.bundle ≡ a.bundle → a.price ≤ p.price → Contains points a
  point_is_best points are a p h c e l = let low = greatest_price-member atoms p (All-contains (Contains atoms) points p are c) in search (rules, same_atom)

  -- a bundle's value, which the price of no bid there exceeds
  module _ (value : List ℕ → ℕ) (most : (b : Atom (List ℕ)) → Contains atoms b → b.price ≤ value b.bundle) where
    greatest_most : (bundle : List ℕ) → greatest_price atoms bundle ≤ value bundle
    greatest_most bundle = search (rules, greatest_price-bound, bundle, All-from_Contains)

    is_greatest : (a : Atom (List ℕ)) → Contains atoms a → IsBundle goods a.bundle → 0 < value a.bundle → a.price ≡ value a.bundle → IsGreatest goods atoms a
    is_greatest a there bundle positive price = search (rules, greatest_price-member, greatest_most)

  -- ---- the OR bidder

  abbrev or_all : List (Atom (List ℕ))
  or_all = or_points goods atoms

  or_bundles : All (IsOnBundle goods) or_all
  or_bundles = or_points_on_bundles goods atoms on

  or_most : (b : Atom (List ℕ)) → Contains atoms b → b.price ≤ or_value atoms b.bundle
  or_most b c = or_value-price atoms b c b.bundle (inside_refl b.bundle)

  pub or_is_greatest : (a : Atom (List ℕ)) → Contains or_all a → IsGreatest goods atoms a
  or_is_greatest a c = let point = (or_points_are goods atoms a).0 c in
      is_greatest (or_value atoms) or_most a (All-contains (Contains atoms) or_all a (or_points_are_atoms goods atoms on) c) point.0 point.1.positive point.2

  -- the points below a point do not reach its price
  or_short : (a : Atom (List ℕ)) → Contains or_all a → or_value (atoms_below or_all a.bundle) a.bundle < a.price
  or_short a c = let point = (or_points_are goods atoms a).0 c in
      ⊎_elim (search rules) (λ (l : a.price ≤ or_value (atoms_below or_all a.bundle) a.bundle).
      let r = ReachesValue-some (atoms_below or_all a.bundle) a.bundle (omega arith) in
      let parts = Contains-filter_parts (λ b. is_below b.bundle a.bundle) or_all r.0 r.1.member in
      let here = All-contains (IsOnBundle goods) or_all r.0 or_bundles parts.0 in
      let own = or_most r.0 (All-contains (Contains atoms) or_all r.0 (or_points_are_atoms goods atoms on) parts.0) in
      search (rules, or_value-filter_le, or_points_keep_values, IsBundle-without)) (cases_lt (or_value (atoms_below or_all a.bundle) a.bundle) a.price)

  -- a best bid whose price they do not reach is one
  or_missed : (a : Atom (List ℕ)) → IsGreatest goods atoms a → or_value (atoms_below or_all a.bundle) a.bundle < a.price → Contains or_all a
  or_missed a h short = let high = greatest_most (or_value atoms) or_most a.bundle in
      let same = or_points_keep_values goods atoms on a.bundle h.bundle in
      let own : Atom (List ℕ) = record { bundle = a.bundle; price = or_value atoms a.bundle } in
      ⊎_elim (λ (t : is_or_point goods atoms a.bundle ≡ true).
      point_is_best or_all (or_points_are_atoms goods atoms on) a own h (search (rules, points_where-has, h)) refl (omega arith))
      (λ (n : is_or_point goods atoms a.bundle ≡ false).
      let all = or_value-filter_on (λ b. is_below b.bundle a.bundle) or_all a.bundle
      (All-from_Contains (λ b. IsInside b.bundle a.bundle → is_below b.bundle a.bundle ≡ true) or_all (λ b c i.
      let p = points_where-are (is_or_point goods atoms) (or_value atoms) goods b c in
      search (rules, below_from, false_from_ne_true, inside_antisymm, both_ways))) in absurd (omega arith)) (cases_Bool (is_or_point goods atoms a.bundle))

  or_fate_none : (kind : SearchKind) (a : Atom (List ℕ)) → or_value (atoms_below or_all a.bundle) a.bundle < a.price → is_none (or_fate kind or_all a) ≡ true
  unfolding or_fate
  or_fate_none kind a l = let t : leb a.price (or_value (atoms_below or_all a.bundle) a.bundle) ≡ false = lt-leb _ _ l in simp t

  or_fate_short : (kind : SearchKind) (a : Atom (List ℕ)) → is_none (or_fate kind or_all a) ≡ true → or_value (atoms_below or_all a.bundle) a.bundle < a.price
  unfolding or_fate
  or_fate_short kind a e = search (rules, le-leb)

  pub or_kept_are_points : (kind : SearchKind) → filter (λ a. is_none (or_fate kind or_all a)) (best_bids goods atoms) ≡ or_all
  or_kept_are_points kind = same_in_order (filter (λ a. is_none (or_fate kind or_all a)) (best_bids goods atoms)) or_all
      (search (rules, AllPairs-filter, best_bids-in_order)) (search (rules, points_where-in_order))
      (λ a c. let r = Contains-filter_parts _ (best_bids goods atoms) a c in search (rules, or_missed, best_bids-are, or_fate_short))
      (search (rules, Contains-filter, best_bids-has, or_is_greatest, or_fate_none, or_short))

  -- ---- an XOR bidder

  abbrev xor_all : List (Atom (List ℕ))
  xor_all = xor_points goods atoms

  xor_atoms : All (Contains atoms) xor_all
  xor_atoms = xor_points_are_atoms goods atoms (just_bundles goods atoms on)

  xor_most : (b : Atom (List ℕ)) → Contains atoms b → b.price ≤ xor_value atoms b.bundle
  xor_most b c = xor_value-member atoms b c b.bundle (inside_refl b.bundle)

  pub xor_is_greatest : (a : Atom (List ℕ)) → Contains xor_all a → IsGreatest goods atoms a
  xor_is_greatest a c = let point = (xor_points_are goods atoms a).0 c in
      is_greatest (xor_value atoms) xor_most a (All-contains (Contains atoms) xor_all a xor_atoms c) point.0 point.1.positive point.2

  index_is_below : (bundle : List ℕ) (index : ℕ) → Contains (indices_below xor_all bundle) index
      → Contains xor_all (atom_at xor_all index) × (is_below (atom_at xor_all index).bundle bundle ≡ true)
  index_is_below bundle index c = let parts = Contains-filter_parts (λ index. is_below (atom_at xor_all index).bundle bundle) _ index c in
      search (rules, Contains-get_or, in_range)

  -- no point below a point has its price
  xor_short : (a : Atom (List ℕ)) → Contains xor_all a → xor_fate xor_all a ≡ None
  unfolding xor_fate
  xor_short a c = find_none (λ index. leb a.price (atom_at xor_all index).price) (indices_below xor_all a.bundle) (λ index d.
      let p = atom_at xor_all index in
      let r = index_is_below a.bundle index d in
      let parts = below_parts p.bundle a.bundle r.1 in
      let point = (xor_points_are goods atoms a).0 c in
      let g = list_all_fails (λ good. has_good p.bundle good) a.bundle parts.1 in
      let own = xor_value-member atoms p (All-contains (Contains atoms) xor_all p xor_atoms r.0) (without a.bundle (g.0 ∷ [])) (inside_without p.bundle a.bundle
      (g.0 ∷ []) parts.0 (search (rules, apart_from, false_from_ne_true, both_ways, has_cases))) in
      search (rules, leb-true, false_from_ne_true))

  -- a best bid whose price none of them has is one
  xor_missed : (a : Atom (List ℕ)) → IsGreatest goods atoms a → xor_fate xor_all a ≡ None → Contains xor_all a
  unfolding xor_fate
  xor_missed a h none = let high = greatest_most (xor_value atoms) xor_most a.bundle in
      let same = xor_points_keep_values goods atoms (just_bundles goods atoms on) a.bundle h.bundle in
      let q = xor_value-reached xor_all a.bundle (omega arith) in let bundle = (xor_points_are goods atoms q.0).0 q.1 in
      let at : atom_at xor_all q.1.0 ≡ q.0 = search (rules, get_or_default) in
      ⊎_elim (λ (t : is_inside a.bundle q.0.bundle ≡ true). point_is_best xor_all xor_atoms a q.0 h q.1 (search (rules, inside_antisymm)) (omega arith))
      (λ (n : is_inside a.bundle q.0.bundle ≡ false).
      let missed = found_none (λ index. leb a.price (atom_at xor_all index).price) (indices_below xor_all a.bundle) none q.1.0
      (search (rules, Contains-filter, range_contains, below_from)) in
      absurd (search (rules, both_ways, le-leb))) (cases_Bool (is_inside a.bundle q.0.bundle))

  pub xor_kept_are_points : filter (λ a. is_none (xor_fate xor_all a)) (best_bids goods atoms) ≡ xor_all
  xor_kept_are_points = same_in_order (filter (λ a. is_none (xor_fate xor_all a)) (best_bids goods atoms)) xor_all
      (search (rules, AllPairs-filter, best_bids-in_order)) (search (rules, points_where-in_order))
      (λ a c. let r = Contains-filter_parts _ (best_bids goods atoms) a c in search (rules, xor_missed, best_bids-are, none_is))
      (search (rules, Contains-filter, best_bids-has, xor_is_greatest, xor_short))
