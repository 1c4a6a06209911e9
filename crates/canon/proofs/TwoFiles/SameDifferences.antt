-- The first difference depends on the values of the auctions alone, so it is the same of canonical files.
use Rattle.canon.proofs.Common.{◌≡◌, ℕ, Bool, true, not, eqb, cond, List, refl, sym, ap, ap₂, ◌∙◌, subst, Option, Some, None, arith, rules, Contains, find}
use Rattle.canon.proofs.Common.{eqb-true, eqb-false, IsBundle, all_bundles, all_bundles_has, PlainFile, IsPlainFile, Atom, PlainAuction, auction_from}
use Rattle.canon.proofs.Common.{bidder_cmp, bidder_cmp_total, bidder_cmp_equal, count_of, or_table, or_value, filter_same_on, find_alike, All-from_Contains}
use Rattle.canon.proofs.Common.{map_same_at, IsOrPoint-from_test, is_or_point-true, or_points_are, is_or_point, or_points, same_or_points, on_bundles}
use Rattle.canon.proofs.Common.{canonical_auction, Difference, NoDifference, InXor, first_difference, first_unequal_bundle, least_unequal_bidder}
use Rattle.canon.proofs.Common.{or_difference, xor_difference, IsSameAuction, AreSameFiles, Side, Exactly, Below, least_uneven, are_unequal, common_steps}
use Rattle.canon.proofs.CanonicalAuctions.Atoms.{HasAtoms}
use Rattle.canon.proofs.TwoFiles.Differences.{at_same_goods, at_other_goods, unequal_bundle_is}
use Rattle.canon.proofs.CanonicalAuctions.Sames.{same_canonical}
use Rattle.canon.proofs.CanonicalFiles.Texts.{HasAtoms-file}

-- ---- the XOR bidders

-- by the canonical bidders of both alone
abbrev from_counts : List (List (Atom (List ℕ))) → List (List (Atom (List ℕ))) → Option (List (Atom (List ℕ))) → Difference
from_counts one other None = NoDifference
from_counts one other (Some bidder) = InXor bidder (count_of bidder_cmp bidder one) (count_of bidder_cmp bidder other)

abbrev from_bidders : List (List (Atom (List ℕ))) → List (List (Atom (List ℕ))) → Difference
from_bidders one other = from_counts one other (least_uneven bidder_cmp bidder_cmp_total bidder_cmp_equal one other)

is_from_counts : (a b : PlainAuction) (o : Option (List (Atom (List ℕ))))
    → xor_difference a b o ≡ from_counts (canonical_auction a).xor_bidders (canonical_auction b).xor_bidders o
is_from_counts a b None = refl
is_from_counts a b (Some bidder) = refl

xor_difference_same : (a a2 b b2 : PlainAuction) → canonical_auction a ≡ canonical_auction a2 → canonical_auction b ≡ canonical_auction b2
    → xor_difference a b (least_unequal_bidder a b) ≡ xor_difference a2 b2 (least_unequal_bidder a2 b2)
xor_difference_same a a2 b b2 e f = search (rules, is_from_counts)

-- ---- the OR bidder, over the same goods

module _ (goods : ℕ) where
  -- two lists of atoms with the same values
  record AreAlike (one other : List (Atom (List ℕ))) : Type 0 where
    table : or_table one goods ≡ or_table other goods
    points : or_points goods one ≡ or_points goods other

  value_alike : (one other : List (Atom (List ℕ))) → AreAlike one other → (bundle : List ℕ) → IsBundle goods bundle
      → or_value one bundle ≡ or_value other bundle
  value_alike one other k bundle b = map_same_at (or_value one) (or_value other) (all_bundles goods) k.table bundle (all_bundles_has goods bundle b)

  point_alike : (one other : List (Atom (List ℕ))) → or_points goods one ≡ or_points goods other → (bundle : List ℕ) → IsBundle goods bundle
      → is_or_point goods one bundle ≡ true → is_or_point goods other bundle ≡ true
  point_alike one other e bundle b t =
      let point : Atom (List ℕ) = record { bundle = bundle; price = or_value one bundle } in
      let there = (or_points_are goods one point).1 (b, IsOrPoint-from_test goods one bundle b t, refl) in
      is_or_point-true goods other bundle ((or_points_are goods other point).0 (subst (λ (zs : List (Atom (List ℕ))). Contains zs point) e there)).1

  is_point_alike : (one other : List (Atom (List ℕ))) → AreAlike one other → (bundle : List ℕ) → IsBundle goods bundle
      → is_or_point goods one bundle ≡ is_or_point goods other bundle
  is_point_alike one other k bundle b = search (rules, point_alike)

  found_alike : (one one2 other other2 : List (Atom (List ℕ))) → AreAlike one one2 → AreAlike other other2 → find (are_unequal one other) (all_bundles goods)
      ≡ find (are_unequal one2 other2) (all_bundles goods)
  found_alike one one2 other other2 k m =
      find_alike (are_unequal one other) (are_unequal one2 other2) (all_bundles goods) (all_bundles goods)
      (filter_same_on (are_unequal one other) (are_unequal one2 other2) (all_bundles goods)
      (All-from_Contains (λ bundle. are_unequal one other bundle ≡ are_unequal one2 other2 bundle) (all_bundles goods) (λ bundle c.
      ap₂ (λ (m n : ℕ). not (eqb m n))
      (map_same_at (or_value one) (or_value one2) (all_bundles goods) k.table bundle c)
      (map_same_at (or_value other) (or_value other2) (all_bundles goods) m.table bundle c))))

-- the auctions' own statements of it
alike_from_same : (goods : ℕ) (a a2 : PlainAuction) → HasAtoms a → HasAtoms a2 → IsSameAuction a a2 → a.goods ≡ goods → AreAlike goods a.or_atoms a2.or_atoms
alike_from_same goods a a2 h h2 s e = search (rules, same_or_points, on_bundles)

-- ---- both

module _ (a a2 b b2 : PlainAuction) (h : HasAtoms a) (h2 : HasAtoms a2) (k : HasAtoms b) (k2 : HasAtoms b2) (s : IsSameAuction a a2)
    (t : IsSameAuction b b2) where
  module _ (e : a.goods ≡ b.goods) where
    e2 : a2.goods ≡ b2.goods
    e2 = sym s.goods ∙ e ∙ t.goods

    left : AreAlike a.goods a.or_atoms a2.or_atoms
    left = alike_from_same a.goods a a2 h h2 s refl

    right : AreAlike a.goods b.or_atoms b2.or_atoms
    right = alike_from_same a.goods b b2 k k2 t (sym e)

    bundle_same : first_unequal_bundle a b ≡ first_unequal_bundle a2 b2
    bundle_same =
        found_alike a.goods a.or_atoms a2.or_atoms b.or_atoms b2.or_atoms left right
        ∙ ap (λ (n : ℕ). find (are_unequal a2.or_atoms b2.or_atoms) (all_bundles n)) s.goods

    abbrev side_by : Bool → ℕ → ℕ → Side
    side_by point own others = cond point (Exactly own) (Below others)

    or_difference_same : (o : Option (List ℕ)) → first_unequal_bundle a b ≡ o → or_difference a b o ≡ or_difference a2 b2 o
    or_difference_same None f = xor_difference_same a a2 b b2 (same_canonical a a2 h h2 s) (same_canonical b b2 k k2 t)
    or_difference_same (Some bundle) f =
        let within = (unequal_bundle_is a b bundle f).within in
        search (rules, value_alike, left, right, is_point_alike)

    same_goods_difference : first_difference a b ≡ first_difference a2 b2
    same_goods_difference = search (rules, at_same_goods, or_difference_same, bundle_same, e2)

  pub difference_same : first_difference a b ≡ first_difference a2 b2
  difference_same = grind (arith, common_steps, same_goods_difference, eqb-true, eqb-false, at_other_goods)

-- so files of the same auctions have it
pub difference_of_same_files : (f f2 g g2 : PlainFile) → IsPlainFile f → IsPlainFile f2 → IsPlainFile g → IsPlainFile g2 → AreSameFiles f f2 → AreSameFiles g g2
    → first_difference (auction_from f) (auction_from g) ≡ first_difference (auction_from f2) (auction_from g2)
difference_of_same_files f f2 g g2 h h2 k k2 s t = search (rules, difference_same, HasAtoms-file)
