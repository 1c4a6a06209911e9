-- All differences begin with the first difference: each of its kinds is found by what is in the lists of changes.
use Rattle.analysis.proofs.Common.{common_steps, rules, ◌≡◌, ℕ, ◌-◌, true, List, [], ◌∷◌, refl, sym, ap, ◌∙◌, subst, arith, Option, Some, None, ◌↔◌, ◌||◌, Atom}
use Rattle.analysis.proofs.Common.{is_some, and_parts, eqb-true, eqb-false, All-head, PlainAuction, bidder_cmp_total, bidder_cmp_equal, bidder_cmp, count_of}
use Rattle.analysis.proofs.Common.{on_bundles, Contains-head, find_none, IsCanonical, or_atoms_in_order, HasAtoms, PlainBidderChange, IsBidderChange, bidder_at}
use Rattle.analysis.proofs.Common.{AreBidderChanges, PlainChange, ArePriceChanges, same_bids, Difference, first_difference, first_unequal_bundle, or_difference}
use Rattle.analysis.proofs.Common.{least_unequal_bidder, xor_difference, least_uneven, least_uneven_is, all_even, are_unequal, equal_test, ArePoints}
use Rattle.analysis.proofs.Common.{IsSameAuction, at_same_goods, at_other_goods, same_from_no_difference, no_difference_from_same, AreAllDifferences}
use Rattle.analysis.proofs.Common.{BeginsWith, PlainDifferences, is_none_at_all, no_differences, first_change_found}
use Rattle.analysis.proofs.Comparing.LeftBidders.{left_is_more, right_is_more, lefts_counted, rights_counted}
use Rattle.canon.specs.Difference as canon

-- ---- the XOR bidders

-- without a change each bidder is on both sides equally often
all_counted_alike : (left right : List (List (Atom (List ℕ)))) → AreBidderChanges left right [] → (bidder : List (Atom (List ℕ)))
    → count_of bidder_cmp bidder left ≡ count_of bidder_cmp bidder right
all_counted_alike left right are bidder =
    let one : 0 ≡ count_of bidder_cmp bidder left - count_of bidder_cmp bidder right = lefts_counted left right [] are bidder in
    let other : 0 ≡ count_of bidder_cmp bidder right - count_of bidder_cmp bidder left = rights_counted left right [] are bidder in
    omega arith

-- and with a change some bidder is not
some_counted_unlike : (left right : List (List (Atom (List ℕ)))) (c : PlainBidderChange) (rest : List PlainBidderChange)
    → AreBidderChanges left right (c ∷ rest) → (bidder : List (Atom (List ℕ))) × (count_of bidder_cmp bidder left ≡ count_of bidder_cmp bidder right → ⊥)
some_counted_unlike left right c rest are =
    by c.left c.right refl refl (All-head (IsBidderChange left right) c rest are.each).some
  where
    by : (on_left on_right : Option ℕ) → c.left ≡ on_left → c.right ≡ on_right → is_some on_left || is_some on_right ≡ true
        → (bidder : List (Atom (List ℕ))) × (count_of bidder_cmp bidder left ≡ count_of bidder_cmp bidder right → ⊥)
    by (Some i) on_right e f t = (
      bidder_at left i,
      λ same. let more = left_is_more left right (c ∷ rest) are c i (Contains-head c rest) e in omega arith,
    )
    by None (Some j) e f t = (
      bidder_at right j,
      λ same. let more = right_is_more left right (c ∷ rest) are c j (Contains-head c rest) f in omega arith,
    )
    by None None e f t = absurd (cc)

-- ---- the auctions

points_of_canonical : (a : PlainAuction) → HasAtoms a → IsCanonical a → ArePoints a.goods a.or_atoms
points_of_canonical a h canonical = search (rules, on_bundles)

module _ (a b : PlainAuction) (h : HasAtoms a) (k : HasAtoms b) (canonical : IsCanonical a) (also : IsCanonical b) where
  least_of_bidders : least_unequal_bidder a b ≡ least_uneven bidder_cmp bidder_cmp_total bidder_cmp_equal a.xor_bidders b.xor_bidders
  least_of_bidders = search (rules, least_uneven, bidder_cmp_total, bidder_cmp_equal)

  begins_in_bidders : (goods : Option (ℕ × ℕ)) → goods ≡ None → (bidders : List PlainBidderChange) → AreBidderChanges a.xor_bidders b.xor_bidders bidders
      → (o : Option (List (Atom (List ℕ)))) → least_unequal_bidder a b ≡ o
      → BeginsWith (xor_difference a b o) (record { goods = goods; bundles = []; bidders = bidders })
  begins_in_bidders goods equal [] are None e = ap (λ (g : Option (ℕ × ℕ)). record { goods = g; bundles = []; bidders = [] }) equal
  begins_in_bidders goods equal [] are (Some bidder) e =
      absurd ((least_uneven_is bidder_cmp bidder_cmp_total bidder_cmp_equal a.xor_bidders b.xor_bidders bidder (sym least_of_bidders ∙ e)).differ
      (all_counted_alike a.xor_bidders b.xor_bidders are bidder))
  begins_in_bidders goods equal (c ∷ rest) are None e =
      let unlike = some_counted_unlike a.xor_bidders b.xor_bidders c rest are in
      absurd (unlike.1 (all_even bidder_cmp bidder_cmp_total bidder_cmp_equal a.xor_bidders b.xor_bidders (sym least_of_bidders ∙ e) unlike.0))
  begins_in_bidders goods equal (c ∷ rest) are (Some bidder) e = (equal, refl, tt)

  begins_in_bids : a.goods ≡ b.goods → (goods : Option (ℕ × ℕ)) → goods ≡ None → (bundles : List PlainChange)
      → ArePriceChanges a.or_atoms b.or_atoms bundles → (bidders : List PlainBidderChange) → AreBidderChanges a.xor_bidders b.xor_bidders bidders
      → BeginsWith (or_difference a b (first_unequal_bundle a b)) (record { goods = goods; bundles = bundles; bidders = bidders })
  begins_in_bids alike goods equal [] on bidders are = search (rules, same_bids, or_atoms_in_order, find_none, are_unequal, equal_test, begins_in_bidders)
  begins_in_bids alike goods equal (c ∷ rest) on bidders are =
      let others = subst (λ (n : ℕ). ArePoints n b.or_atoms) (sym alike) (points_of_canonical b k also) in
      let found : first_unequal_bundle a b ≡ Some c.bundle =
      first_change_found a.goods a.or_atoms b.or_atoms (points_of_canonical a h canonical) others c rest on in
      search rules

  pub begins_with_first : (differences : PlainDifferences) → AreAllDifferences a b differences → BeginsWith (first_difference a b) differences
  begins_with_first differences are = search (rules, eqb-true, at_same_goods, begins_in_bids, at_other_goods, eqb-false)

-- ---- the same auction

pub empty_from_test : (differences : PlainDifferences) → is_none_at_all differences ≡ true → differences ≡ no_differences
empty_from_test differences = grind (arith, common_steps, eqb-true, and_parts)

none_from_empty : (d : Difference) → BeginsWith d no_differences → d ≡ canon.NoDifference
none_from_empty canon.NoDifference e = refl
none_from_empty (canon.InGoods left right) e = absurd (cc)
none_from_empty (canon.InOr bundle left right) e = absurd e.1
none_from_empty (canon.InXor bidder left right) e = absurd e.2

module _ (a b : PlainAuction) (h : HasAtoms a) (k : HasAtoms b) (differences : PlainDifferences)
    (begins : BeginsWith (first_difference a b) differences) where
  pub none_exactly_for_same : (is_none_at_all differences ≡ true ↔ IsSameAuction a b)
  none_exactly_for_same = search (rules, same_from_no_difference, none_from_empty, empty_from_test, no_difference_from_same)
