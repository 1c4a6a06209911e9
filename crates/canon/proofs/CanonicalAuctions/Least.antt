-- The canonical file is held by every file of the same auction: their canonical files are one, and a file holds its points.
use Rattle.canon.proofs.Common.{rules, ◌≡◌, ℕ, ◌<◌, ◌≤◌, true, false, ⊎_elim, List, [], ◌∷◌, length, map, None, refl, sym, ap, ◌∙◌, subst, arith, All}
use Rattle.canon.proofs.Common.{Contains, is_eq, cases_Bool, length-append, length-map, length-map-range_with_len, All-head, All-tail, All-weaker, PlainFile}
use Rattle.canon.proofs.Common.{IsPlainFile, Atom, PlainAuction, IsAtom, auction_from, xor_atoms_of, count_atoms, bidder_cmp, count_of, sum_by-sort_by}
use Rattle.canon.proofs.Common.{xor_table, is_nonzero, xor_points, just_bundles, or_points_are_atoms, xor_points_are_atoms, on_bundles, no_xor_points}
use Rattle.canon.proofs.Common.{AreSameFiles, canonical_auction, canonical_file, points_of_bidders, bid_from, dummy_bids, file_from, IsHeldBy}
use Rattle.canon.proofs.CanonicalAuctions.Atoms.{HasAtoms}
use Rattle.canon.proofs.CanonicalAuctions.Counting.{alike, skips, points_more, points_without}
use Rattle.canon.proofs.CanonicalFiles.Files.{auction_from-file_from, length-dummy_bids}
use Rattle.canon.proofs.CanonicalAuctions.Sames.{same_canonical}
use Rattle.canon.proofs.CanonicalAuctions.Smaller.{length-or_points, no_more_canonical_bidders, no_more_canonical_atoms}
use Rattle.canon.proofs.CanonicalFiles.Texts.{HasAtoms-file}

-- bidders of value zero have no points, so others are counted alike with them and without
points_with_zero : (goods : ℕ) (point : Atom (List ℕ)) (rest : List (Atom (List ℕ))) (bidders : List (List (Atom (List ℕ)))) → All (All (IsAtom goods)) bidders
    → count_of bidder_cmp (point ∷ rest) (map (xor_points goods) bidders) ≡ count_of bidder_cmp (point ∷ rest) (points_of_bidders goods bidders)
points_with_zero goods point rest [] h = refl
points_with_zero goods point rest (b ∷ bs) h =
    let later = points_with_zero goods point rest bs (All-tail (All (IsAtom goods)) b bs h) in
    let test = λ (p : List (Atom (List ℕ))). is_eq (bidder_cmp (point ∷ rest) p) in
    ⊎_elim
    (λ (e : is_nonzero (xor_table b goods) ≡ true).
    alike test test (xor_points goods b) (map (xor_points goods) bs) (xor_points goods b) (points_of_bidders goods bs) refl later
    ∙ sym (ap (count_of bidder_cmp (point ∷ rest)) (points_more goods b bs e)))
    (λ (e : is_nonzero (xor_table b goods) ≡ false).
    let none : xor_points goods b ≡ [] = (no_xor_points goods b (on_bundles goods b (All-head (All (IsAtom goods)) b bs h))).1 e in
    skips test (xor_points goods b) (map (xor_points goods) bs) (ap test none) ∙ later
    ∙ sym (ap (count_of bidder_cmp (point ∷ rest)) (points_without goods b bs e)))
    (cases_Bool (is_nonzero (xor_table b goods)))

module _ (g : PlainFile) (facts : IsPlainFile g) where
  atoms : HasAtoms (auction_from g)
  atoms = HasAtoms-file g facts

  same_auction : auction_from (canonical_file g) ≡ canonical_auction (auction_from g)
  same_auction = auction_from-file_from (canonical_auction (auction_from g))

  bidders_held : (points : List (Atom (List ℕ))) → 0 < length points → count_of bidder_cmp points (map (xor_points g.goods) (auction_from g).xor_bidders)
      ≡ count_of bidder_cmp points (canonical_auction (auction_from g)).xor_bidders
  bidders_held [] l = absurd (omega arith)
  bidders_held (point ∷ rest) l = points_with_zero g.goods point rest (auction_from g).xor_bidders atoms.xor_atoms ∙ sym (search (rules, sum_by-sort_by))

  bids_fewer : length (canonical_file g).bids ≤ length g.bids
  bids_fewer =
      let c = canonical_auction (auction_from g) in
      let first = length-map c.or_atoms (bid_from None) in
      let both = length-append (map (bid_from None) c.or_atoms) (dummy_bids 0 c.xor_bidders) in
      let later = length-dummy_bids 0 c.xor_bidders in
      omega (arith, no_more_canonical_atoms (auction_from g) atoms, count_atoms g.bids g.dummy)

  pub canonical_is_held : IsHeldBy (canonical_file g) g
  canonical_is_held = record {
    or_bids = subst (λ (a : PlainAuction). All (Contains (auction_from g).or_atoms) a.or_atoms) (sym same_auction)
        (or_points_are_atoms g.goods (auction_from g).or_atoms (on_bundles g.goods (auction_from g).or_atoms atoms.or_atoms));
    bidders = λ points l. bidders_held points l ∙ ap (λ (a : PlainAuction). count_of bidder_cmp points a.xor_bidders) (sym same_auction);
    bids = All-weaker (All (IsAtom g.goods)) (λ b. All (Contains b) (xor_points g.goods b))
        (λ b h. xor_points_are_atoms g.goods b (just_bundles g.goods b (on_bundles g.goods b h))) (auction_from g).xor_bidders atoms.xor_atoms;
    no_more_bids = bids_fewer;
    no_more_or_bids = subst (λ (a : PlainAuction). length a.or_atoms ≤ length (auction_from g).or_atoms) (sym same_auction)
        (length-or_points g.goods (auction_from g).or_atoms atoms.or_atoms);
    no_more_dummies = omega (arith, no_more_canonical_bidders (auction_from g) atoms, length-map-range_with_len (xor_atoms_of g.bids) 0 g.dummy);
  }

pub canonical_is_least : (f : PlainFile) → IsPlainFile f → (other : PlainFile) → IsPlainFile other → AreSameFiles f other → IsHeldBy (canonical_file f) other
canonical_is_least f facts other k s =
    subst (λ (h : PlainFile). IsHeldBy h other)
    (sym (ap file_from (same_canonical (auction_from f) (auction_from other) (HasAtoms-file f facts) (HasAtoms-file other k) s)))
    (canonical_is_held other k)
