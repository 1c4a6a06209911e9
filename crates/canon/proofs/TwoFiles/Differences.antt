-- Laws of the first difference. Exchanging the auctions exchanges its sides; there is none exactly between auctions that are the same;
-- and where it is a bundle or a bidder, it is a point of one of them, or counted unequally by tables: each case by case over its parts.
use Rattle.canon.proofs.Common.{◌≡◌, ℕ, ◌<◌, true, eqb, cond, ⊎_elim, List, refl, sym, ap, ap₂, ◌∙◌, subst, arith, Option, Some, None, rules, All, ◌↔◌}
use Rattle.canon.proofs.Common.{count_by, is_eq, eqb-true, eq-eqb, ne_eqb, eqb-false, not_from_true, cond-true, cond-false, all_bundles, Atom, PlainAuction}
use Rattle.canon.proofs.Common.{IsAtom, bidder_cmp, bidder_cmp_total, bidder_cmp_equal, sort_by, count_of, ordered-sort_by, ordered_from_counts}
use Rattle.canon.proofs.Common.{sum_by-sort_by, or_table, xor_table, or_value, find_none, found_none, map_same_on, map_same_at, All-from_Contains}
use Rattle.canon.proofs.Common.{zero_or_more, is_or_point, or_points, same_or_points, on_bundles, IsSameAuction, has_table, bidders_with, canonical_auction}
use Rattle.canon.proofs.Common.{points_of_bidders, NoDifference, InGoods, first_difference, first_unequal_bundle, least_unequal_bidder, or_difference}
use Rattle.canon.proofs.Common.{xor_difference, copies_of, exchanged, are_unequal, equal_from_test, unequal_swap, IsFirstUnequal, first_unequal}
use Rattle.canon.proofs.Common.{greater_is_point, least_uneven, least_uneven_swap, all_even, none_of_same, IsLeastUneven, least_uneven_is, common_steps}
use Rattle.canon.proofs.CanonicalAuctions.Atoms.{HasAtoms, xor_points_table}
use Rattle.canon.proofs.CanonicalAuctions.Counting.{IsPointsOf, occurring, points_as_tables}
use Rattle.canon.proofs.CanonicalAuctions.Sames.{same_canonical, same_from_canonical}

-- ---- exchanging

pub unequal_bundle_swap : (a b : PlainAuction) → a.goods ≡ b.goods → first_unequal_bundle b a ≡ first_unequal_bundle a b
unequal_bundle_swap a b e = search (rules, unequal_swap, are_unequal)

xor_swap : (a b : PlainAuction) (o : Option (List (Atom (List ℕ)))) → xor_difference b a o ≡ exchanged (xor_difference a b o)
xor_swap a b None = refl
xor_swap a b (Some bidder) = refl

or_swap : (a b : PlainAuction) (o : Option (List ℕ)) → or_difference b a o ≡ exchanged (or_difference a b o)
or_swap a b None = ap (xor_difference b a) (search (rules, least_uneven_swap, bidder_cmp_total, bidder_cmp_equal)) ∙ xor_swap a b (least_unequal_bidder a b)
or_swap a b (Some bundle) = refl

-- of auctions with as many goods
pub at_same_goods : (a b : PlainAuction) → a.goods ≡ b.goods → first_difference a b ≡ or_difference a b (first_unequal_bundle a b)
at_same_goods a b e = cond-true (eqb a.goods b.goods) (or_difference a b (first_unequal_bundle a b)) (InGoods a.goods b.goods) (eq-eqb a.goods b.goods e)

pub at_other_goods : (a b : PlainAuction) → (a.goods ≡ b.goods → ⊥) → first_difference a b ≡ InGoods a.goods b.goods
at_other_goods a b n = cond-false (eqb a.goods b.goods) (or_difference a b (first_unequal_bundle a b)) (InGoods a.goods b.goods) (ne_eqb a.goods b.goods n)

pub differences_swap : (a b : PlainAuction) → first_difference b a ≡ exchanged (first_difference a b)
differences_swap a b = grind (arith, common_steps, eqb-true, at_same_goods, unequal_bundle_swap, or_swap, eqb-false, at_other_goods)

-- ---- the same auction

-- no bundle, and no bidder
same_from_none : (a b : PlainAuction) → HasAtoms a → HasAtoms b → a.goods ≡ b.goods → first_unequal_bundle a b ≡ None → least_unequal_bidder a b ≡ None
    → IsSameAuction a b
same_from_none a b h k e values counts = same_from_canonical a b h k (search (rules, over, points, all))
  where
    over : {x y : ℕ} → x ≡ y → (f : ℕ → List (Atom (List ℕ)) → List (List (Atom (List ℕ))) → PlainAuction) → {p q : List (Atom (List ℕ))} → p ≡ q
        → {r s : List (List (Atom (List ℕ)))} → r ≡ s → f x p r ≡ f y q s
    over {x} {y} d f {p} {q} u {r} {s} v = ap (λ (n : ℕ). f n p r) d
        ∙ ap₂ (λ (or_atoms : List (Atom (List ℕ))) (xor_bidders : List (List (Atom (List ℕ)))). f y or_atoms xor_bidders) u v

    tables : or_table a.or_atoms a.goods ≡ or_table b.or_atoms a.goods
    tables = map_same_on (or_value a.or_atoms) (or_value b.or_atoms) (all_bundles a.goods)
        (All-from_Contains (λ bundle. or_value a.or_atoms bundle ≡ or_value b.or_atoms bundle) (all_bundles a.goods)
        (λ bundle c. equal_from_test a.or_atoms b.or_atoms bundle (found_none (are_unequal a.or_atoms b.or_atoms) (all_bundles a.goods) values bundle c)))

    points : or_points a.goods a.or_atoms ≡ or_points b.goods b.or_atoms
    points = search (rules, same_or_points, on_bundles, tables)

    all : (canonical_auction a).xor_bidders ≡ (canonical_auction b).xor_bidders
    all = search (rules, ordered_from_counts, bidder_cmp_total, bidder_cmp_equal, ordered-sort_by, all_even)

same_from_bidder : (a b : PlainAuction) → HasAtoms a → HasAtoms b → a.goods ≡ b.goods → first_unequal_bundle a b ≡ None → (o : Option (List (Atom (List ℕ))))
    → least_unequal_bidder a b ≡ o → xor_difference a b o ≡ NoDifference → IsSameAuction a b
same_from_bidder a b h k e values None f d = same_from_none a b h k e values f
same_from_bidder a b h k e values (Some bidder) f d = absurd (cc)

same_from_bundle : (a b : PlainAuction) → HasAtoms a → HasAtoms b → a.goods ≡ b.goods → (o : Option (List ℕ)) → first_unequal_bundle a b ≡ o
    → or_difference a b o ≡ NoDifference → IsSameAuction a b
same_from_bundle a b h k e None f d = same_from_bidder a b h k e f (least_unequal_bidder a b) refl d
same_from_bundle a b h k e (Some bundle) f d = absurd (cc)

pub same_from_no_difference : (a b : PlainAuction) → HasAtoms a → HasAtoms b → first_difference a b ≡ NoDifference → IsSameAuction a b
same_from_no_difference a b h k d = grind (arith, common_steps, eqb-true, same_from_bundle, at_same_goods, at_other_goods, eqb-false)

pub no_difference_from_same : (a b : PlainAuction) → HasAtoms a → HasAtoms b → IsSameAuction a b → first_difference a b ≡ NoDifference
no_difference_from_same a b h k s =
    at_same_goods a b s.goods ∙ ap (or_difference a b) no_bundle ∙ ap (xor_difference a b) no_bidder
  where
    no_bundle : first_unequal_bundle a b ≡ None
    no_bundle =
        let tables : or_table a.or_atoms a.goods ≡ or_table b.or_atoms a.goods = s.or_values ∙ ap (or_table b.or_atoms) (sym s.goods) in
        find_none (are_unequal a.or_atoms b.or_atoms) (all_bundles a.goods) (λ bundle c.
        not_from_true (eqb (or_value a.or_atoms bundle) (or_value b.or_atoms bundle)) (eq-eqb (or_value a.or_atoms bundle) (or_value b.or_atoms bundle)
        (map_same_at (or_value a.or_atoms) (or_value b.or_atoms) (all_bundles a.goods) tables bundle c)))

    no_bidder : least_unequal_bidder a b ≡ None
    no_bidder =
        subst (λ (bs : List (List (Atom (List ℕ)))). least_uneven bidder_cmp bidder_cmp_total bidder_cmp_equal (canonical_auction a).xor_bidders bs ≡ None)
        (ap (λ (c : PlainAuction). c.xor_bidders) (same_canonical a b h k s))
        (none_of_same bidder_cmp bidder_cmp_total bidder_cmp_equal (canonical_auction a).xor_bidders)

pub no_difference_same : (a b : PlainAuction) → HasAtoms a → HasAtoms b → (first_difference a b ≡ NoDifference ↔ IsSameAuction a b)
no_difference_same a b h k = (same_from_no_difference a b h k, no_difference_from_same a b h k)

-- ---- the first bundle

pub unequal_bundle_is : (a b : PlainAuction) (bundle : List ℕ) → first_unequal_bundle a b ≡ Some bundle → IsFirstUnequal a.goods a.or_atoms b.or_atoms bundle
unequal_bundle_is a b bundle e = first_unequal a.goods a.or_atoms b.or_atoms bundle e

pub greater_has_point : (a b : PlainAuction) → HasAtoms b → a.goods ≡ b.goods → (bundle : List ℕ) → first_unequal_bundle a b ≡ Some bundle
    → or_value b.or_atoms bundle < or_value a.or_atoms bundle → is_or_point a.goods a.or_atoms bundle ≡ true
greater_has_point a b k same bundle e l =
    let f = unequal_bundle_is a b bundle e in
    search (rules, All, greater_is_point, on_bundles)

-- ---- the least bidder

pub unequal_bidder_is : (a b : PlainAuction) (bidder : List (Atom (List ℕ))) → least_unequal_bidder a b ≡ Some bidder
    → IsLeastUneven bidder_cmp bidder_cmp_total bidder_cmp_equal (canonical_auction a).xor_bidders (canonical_auction b).xor_bidders bidder
unequal_bidder_is a b bidder e = search (rules, least_uneven_is)

copies_in : (goods : ℕ) (bidder : List (Atom (List ℕ))) (bidders : List (List (Atom (List ℕ))))
    → count_of bidder_cmp bidder (sort_by bidder_cmp (points_of_bidders goods bidders)) ≡ count_of bidder_cmp bidder (points_of_bidders goods bidders)
copies_in goods bidder bidders = sum_by-sort_by bidder_cmp (λ b. cond (is_eq (bidder_cmp bidder b)) 1 0) (points_of_bidders goods bidders)

-- the points of some bidder are counted as its table is
copies_by_table : (goods : ℕ) (bidder model : List (Atom (List ℕ))) → IsPointsOf goods bidder model → (bidders : List (List (Atom (List ℕ))))
    → All (All (IsAtom goods)) bidders → count_of bidder_cmp bidder (sort_by bidder_cmp (points_of_bidders goods bidders))
    ≡ count_by (has_table goods (xor_table bidder goods)) bidders
copies_by_table goods bidder model p bidders h = copies_in goods bidder bidders
    ∙ ap (λ (b : List (Atom (List ℕ))). count_of bidder_cmp b (points_of_bidders goods bidders)) p.are
    ∙ points_as_tables goods model p.atoms p.nonzero bidders h
    ∙ ap (λ (table : List ℕ). count_by (has_table goods table) bidders) (search (rules, xor_points_table))

pub numbers_by_table : (a b : PlainAuction) → HasAtoms a → HasAtoms b → a.goods ≡ b.goods → (bidder : List (Atom (List ℕ)))
    → least_unequal_bidder a b ≡ Some bidder → (copies_of bidder a ≡ bidders_with (xor_table bidder a.goods) a)
    × (copies_of bidder b ≡ bidders_with (xor_table bidder b.goods) b)
numbers_by_table a b h k same bidder e =
    let least = unequal_bidder_is a b bidder e in
    let one = copies_in a.goods bidder a.xor_bidders in
    let other = copies_in b.goods bidder b.xor_bidders in
    ⊎_elim
    (λ (z : copies_of bidder a ≡ 0).
    let some : 0 < count_of bidder_cmp bidder (points_of_bidders b.goods b.xor_bidders) =
    ⊎_elim (λ (y : copies_of bidder b ≡ 0). absurd (least.differ (z ∙ sym y))) (λ (l : 0 < copies_of bidder b). omega arith)
    (zero_or_more (copies_of bidder b)) in
    let r = occurring b.goods bidder b.xor_bidders k.xor_atoms some in
    by r.0 (subst (λ n. IsPointsOf n bidder r.0) (sym same) r.1) r.1)
    (λ (l : 0 < copies_of bidder a).
    let r = occurring a.goods bidder a.xor_bidders h.xor_atoms (omega arith) in
    by r.0 r.1 (subst (λ n. IsPointsOf n bidder r.0) same r.1))
    (zero_or_more (copies_of bidder a))
  where
    by : (model : List (Atom (List ℕ))) → IsPointsOf a.goods bidder model → IsPointsOf b.goods bidder model
        → (copies_of bidder a ≡ bidders_with (xor_table bidder a.goods) a) × (copies_of bidder b ≡ bidders_with (xor_table bidder b.goods) b)
    by model p q = (copies_by_table a.goods bidder model p a.xor_bidders h.xor_atoms, copies_by_table b.goods bidder model q b.xor_bidders k.xor_atoms)
