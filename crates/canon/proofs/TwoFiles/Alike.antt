-- Alike files. The idea: OR values depend on the bids that no single bid replaces alone, since any other may be taken for one inside its
-- bundle with at least its price; and what needs no search depends on the XOR values of the bids alone, which neither their order nor their
-- repetition changes. Nor do these change which bundle a search is refused at.
use Rattle.canon.proofs.Common.{◌≡◌, ℕ, ◌<◌, ◌≤◌, List, length, map, Bool, refl, sym, ap, ◌∙◌, subst, arith, le_antisymm, is_none, rules, All, Contains, ◌↔◌}
use Rattle.canon.proofs.Common.{filter, All-contains, All-weaker, PlainBid, PlainFile, IsPlainFile, Spells, spells_one, IsBundle, IsInside, inside_refl, Atom}
use Rattle.canon.proofs.Common.{IsAtom, PlainAuction, atom_of, auction_from, xor_atoms_of, IsAuction-auction_from, Contains-map, Contains-unmap}
use Rattle.canon.proofs.Common.{or_value-price, bidder_cmp, sort_by, xor_table, or_value, xor_value, just_bundles, on_bundles, xor_points_are_atoms}
use Rattle.canon.proofs.Common.{xor_points_keep_values, xor_points_same, All-from_Contains, Contains-filter, Contains-filter_parts, filter_same_on}
use Rattle.canon.proofs.Common.{map_same_on, or_value-dominated, xor_value-bound, xor_value-member, xor_points, points_of_bidders, has_value, nonzero_dummies}
use Rattle.canon.proofs.Common.{points_of_nonzero, points_of_dummy, AreSameFiles, IsSameAuction, AreAlike, AreAlikeAuctions, unsearched_auction}
use Rattle.canon.proofs.Common.{unsearched_file, unsearched_text, SearchOptions, first_refused, first_refused-same_bids}
use Rattle.cats_text.proofs.Writing.Spells as laid_out
use Rattle.prune.specs.Lemmas.OnBundles.{IsOnBundle}
use Rattle.canon.proofs.CanonicalAuctions.Atoms.{HasAtoms, xor_points_atoms}
use Rattle.canon.proofs.CanonicalAuctions.Sames.{canonical_is_same, same_sym, same_trans}
use Rattle.canon.proofs.CanonicalAuctions.Smaller.{IsAuction-unsearched}
use Rattle.canon.proofs.CanonicalFiles.Files.{auction_from-file_from, IsPlainFile-file_from}
use Rattle.canon.proofs.CanonicalFiles.Texts.{HasAtoms-file}

-- ---- OR values without the bids that single bids replace

some_goods : (goods : ℕ) (atoms : List (Atom (List ℕ))) → All (IsAtom goods) atoms → All (λ a. 0 < length a.bundle) atoms
some_goods goods atoms h = All-weaker (IsAtom goods) (λ a. 0 < length a.bundle) (λ a i. i.nonempty) atoms h

-- a packing reaches what one bid reaches
xor_below_or : (atoms : List (Atom (List ℕ))) (bundle : List ℕ) → xor_value atoms bundle ≤ or_value atoms bundle
xor_below_or atoms bundle = search (rules, xor_value-bound, All-from_Contains, or_value-price)

module _ (goods : ℕ) (atoms : List (Atom (List ℕ))) (h : All (IsAtom goods) atoms) where
  abbrev points : List (Atom (List ℕ))
  points = xor_points goods atoms

  each_reached : (a : Atom (List ℕ)) → Contains atoms a → a.price ≤ or_value points a.bundle
  each_reached a c =
      let on = just_bundles goods atoms (on_bundles goods atoms h) in
      let bundle : IsBundle goods a.bundle = (All-contains (IsAtom goods) atoms a h c).bundle in
      let same : xor_value points a.bundle ≡ xor_value atoms a.bundle = xor_points_keep_values goods atoms on a.bundle bundle in
      let low : a.price ≤ xor_value atoms a.bundle = xor_value-member atoms a c a.bundle (inside_refl a.bundle) in
      let high : xor_value points a.bundle ≤ or_value points a.bundle = xor_below_or points a.bundle in
      omega arith

  kept_values : (bundle : List ℕ) → or_value atoms bundle ≡ or_value points bundle
  kept_values bundle =
      let on = just_bundles goods atoms (on_bundles goods atoms h) in
      le_antisymm
      (or_value-dominated points (some_goods goods points (xor_points_atoms goods atoms h)) atoms
      (All-from_Contains (λ a. a.price ≤ or_value points a.bundle) atoms each_reached) bundle)
      (or_value-dominated atoms (some_goods goods atoms h) points
      (All-weaker (Contains atoms) (λ a. a.price ≤ or_value atoms a.bundle)
      (λ a c. or_value-price atoms a c a.bundle (inside_refl a.bundle)) points (xor_points_are_atoms goods atoms on)) bundle)

-- the unsearched auction is the same auction
unsearched_is_same : (a : PlainAuction) → HasAtoms a → IsSameAuction a (unsearched_auction a)
unsearched_is_same a h = record {
  goods = refl;
  or_values = search (rules, map_same_on, All-from_Contains, kept_values);
  xor_bidders = (canonical_is_same a h).xor_bidders;
}

-- ---- alike auctions have one unsearched auction

one_from_alike : (a b : PlainAuction) → AreAlikeAuctions a b → unsearched_auction a ≡ unsearched_auction b
one_from_alike a b s = search rules

alike_from_one : (a b : PlainAuction) → unsearched_auction a ≡ unsearched_auction b → AreAlikeAuctions a b
alike_from_one a b e = search rules

same_from_one : (a b : PlainAuction) → HasAtoms a → HasAtoms b → unsearched_auction a ≡ unsearched_auction b → IsSameAuction a b
same_from_one a b h k e =
    same_trans a (unsearched_auction b) b (subst (λ (x : PlainAuction). IsSameAuction a x) e (unsearched_is_same a h))
    (same_sym b (unsearched_auction b) (unsearched_is_same b k))

pub same_from_alike : (f g : PlainFile) → IsPlainFile f → IsPlainFile g → AreAlike f g → AreSameFiles f g
same_from_alike f g h k s = search (rules, same_from_one, HasAtoms-file, one_from_alike)

-- ---- and their files one text

IsPlainFile-unsearched : (f : PlainFile) → IsPlainFile f → IsPlainFile (unsearched_file f)
IsPlainFile-unsearched f h = IsPlainFile-file_from f.goods (unsearched_auction (auction_from f)) (search (rules, IsAuction-unsearched, IsAuction-auction_from))

one_from_texts : (f g : PlainFile) → IsPlainFile f → IsPlainFile g → unsearched_text f ≡ unsearched_text g
    → unsearched_auction (auction_from f) ≡ unsearched_auction (auction_from g)
one_from_texts f g h k e =
    let one : Spells (unsearched_text g) (unsearched_file f) =
    subst (λ (text : List ℕ). Spells text (unsearched_file f)) e (laid_out.layout_spells (unsearched_file f) (IsPlainFile-unsearched f h)) in
    let other : Spells (unsearched_text g) (unsearched_file g) = laid_out.layout_spells (unsearched_file g) (IsPlainFile-unsearched g k) in
    let files : unsearched_file f ≡ unsearched_file g = spells_one (unsearched_text g) (unsearched_file f) (unsearched_file g) one other in
    sym (auction_from-file_from (unsearched_auction (auction_from f))) ∙ ap auction_from files ∙ auction_from-file_from (unsearched_auction (auction_from g))

pub unsearched_texts_tell : (f g : PlainFile) → IsPlainFile f → IsPlainFile g → (unsearched_text f ≡ unsearched_text g ↔ AreAlike f g)
unsearched_texts_tell f g h k = search (rules, alike_from_one, one_from_texts, one_from_alike)

-- ---- the same bids

-- the atoms of the bids that pass a test, where each of the bids is among others
atoms_among : (p : PlainBid → Bool) (one other : List PlainBid) → ((bid : PlainBid) → Contains one bid → Contains other bid) → (a : Atom (List ℕ))
    → Contains (map atom_of (filter p one)) a → Contains (map atom_of (filter p other)) a
atoms_among p one other among a c =
    let more : List (Atom (List ℕ)) = map atom_of (filter p other) in
    let bid = Contains-unmap atom_of (filter p one) a c in
    let parts = Contains-filter_parts p one bid.0 bid.1 in
    let there : Contains more (atom_of bid.0) = Contains-map atom_of (filter p other) bid.0 (Contains-filter p other bid.0 (among bid.0 parts.0) parts.1) in
    subst (λ (x : Atom (List ℕ)). Contains more x) (sym bid.2) there

-- their XOR value is no greater
values_of_some : (p : PlainBid → Bool) (one other : List PlainBid) → ((bid : PlainBid) → Contains one bid → Contains other bid) → (bundle : List ℕ)
    → xor_value (map atom_of (filter p one)) bundle ≤ xor_value (map atom_of (filter p other)) bundle
values_of_some p one other among bundle =
    let atoms : List (Atom (List ℕ)) = map atom_of (filter p one) in
    let more : List (Atom (List ℕ)) = map atom_of (filter p other) in
    xor_value-bound atoms bundle (xor_value more bundle) (All-from_Contains (λ a. IsInside a.bundle bundle → a.price ≤ xor_value more bundle) atoms
    (λ a c i. xor_value-member more a (atoms_among p one other among a c) bundle i))

module _ (goods dummy : ℕ) (one other : List PlainBid) (same : (bid : PlainBid) → (Contains one bid ↔ Contains other bid)) where
  abbrev f : PlainFile
  f = record { goods = goods; dummy = dummy; bids = one }

  abbrev g : PlainFile
  g = record { goods = goods; dummy = dummy; bids = other }

  values_alike : (p : PlainBid → Bool) (bundle : List ℕ) → xor_value (map atom_of (filter p one)) bundle ≡ xor_value (map atom_of (filter p other)) bundle
  values_alike p bundle = le_antisymm (values_of_some p one other (λ bid. (same bid).0) bundle) (values_of_some p other one (λ bid. (same bid).1) bundle)

  points_alike : (p : PlainBid → Bool) → xor_points goods (map atom_of (filter p one)) ≡ xor_points goods (map atom_of (filter p other))
  points_alike p = xor_points_same goods (map atom_of (filter p one)) (map atom_of (filter p other)) (λ bundle b. values_alike p bundle)

  table_alike : (d : ℕ) → xor_table (xor_atoms_of one d) goods ≡ xor_table (xor_atoms_of other d) goods
  table_alike d = search (rules, map_same_on, All-from_Contains, values_alike)

  bidders_alike : points_of_bidders goods (auction_from f).xor_bidders ≡ points_of_bidders goods (auction_from g).xor_bidders
  bidders_alike = points_of_nonzero f ∙ ap (map (points_of_dummy f)) (search (rules, filter_same_on, has_value, All-from_Contains, table_alike))
      ∙ map_same_on (points_of_dummy f) (points_of_dummy g) (nonzero_dummies g) (search (rules, All-from_Contains, points_alike)) ∙ sym (points_of_nonzero g)

  alike : AreAlike f g
  alike = record { goods = refl; or_bids = points_alike (λ b. is_none b.dummy); xor_bidders = ap (sort_by bidder_cmp) bidders_alike }

pub alike_by_bids : (f g : PlainFile) → f.goods ≡ g.goods → f.dummy ≡ g.dummy → ((bid : PlainBid) → (Contains f.bids bid ↔ Contains g.bids bid)) → AreAlike f g
alike_by_bids f g e d same =
    subst (λ n. AreAlike f (record { goods = n; dummy = g.dummy; bids = g.bids })) e
    (subst (λ n. AreAlike f (record { goods = f.goods; dummy = n; bids = g.bids })) d (alike f.goods f.dummy f.bids g.bids same))

-- ---- and they are refused alike

pub refused_by_bids : (options : SearchOptions) (f g : PlainFile) → IsPlainFile f → IsPlainFile g → f.goods ≡ g.goods
    → ((bid : PlainBid) → (Contains f.bids bid ↔ Contains g.bids bid))
    → first_refused options f.goods (auction_from f).or_atoms ≡ first_refused options g.goods (auction_from g).or_atoms
refused_by_bids options f g h k e same =
    let one : List (Atom (List ℕ)) = (auction_from f).or_atoms in
    let other : List (Atom (List ℕ)) = (auction_from g).or_atoms in
    let on : All (IsOnBundle f.goods) one = on_bundles f.goods one (HasAtoms-file f h).or_atoms in
    let there : All (IsOnBundle g.goods) other = on_bundles g.goods other (HasAtoms-file g k).or_atoms in
    first_refused-same_bids f.goods one other on (subst (λ n. All (IsOnBundle n) other) (sym e) there)
    (λ a. (atoms_among (λ b. is_none b.dummy) f.bids g.bids (λ bid. (same bid).0) a, atoms_among (λ b. is_none b.dummy) g.bids f.bids (λ bid. (same bid).1) a))
    options ∙ ap (λ n. first_refused options n other) e
