-- The bids that differ are bids of the files. The idea: a bid of a canonical file is a point of its bidder, each point is one of the bidder's
-- atoms, and so a bid of the file.
use Rattle.commands.proofs.Common.{◌≡◌, ◌<◌, ℕ, Bool, true, List, [], length, map, get_or, sym, ap, ◌∙◌, subst, arith, Option, Some, None, All, Contains}
use Rattle.commands.proofs.Common.{range_with_len, get_or-map, length-map, All-contains, All-get_or, All-weaker, Contains-get_or, get_or-map-range_with_len}
use Rattle.commands.proofs.Common.{length-map-range_with_len, PlainBid, PlainFile, IsDummyBelow, IsPlainFile, Atom, IsAtom, PlainAuction, atom_of}
use Rattle.commands.proofs.Common.{auction_from, is_dummy, or_atoms_of, xor_atoms_of, Contains-unmap, just_bundles, on_bundles, or_points_are_atoms}
use Rattle.commands.proofs.Common.{xor_points_are_atoms, Contains-filter_parts, or_points, HasAtoms, auction_from-file_from, HasAtoms-file, canonical_auction}
use Rattle.commands.proofs.Common.{canonical_file, kept_dummies-below, points_of_kept_dummies, kept_dummies, named_dummy, points_of_dummy, PlainBidderChange}
use Rattle.commands.proofs.Common.{AreBidderChanges, bidder_at, bids_at, PlainChange, IsPriceChange, ArePriceChanges, price_on, bid_of_price, none_is, some_is}
use Rattle.commands.proofs.Common.{IsBidOf, IsOfBidders, IsOfBids, is_none, filter}
use Rattle.commands.proofs.ComparedFiles.{lefts_below, rights_below}

-- each point is an atom of the bids that pass a test, so its price is that of a bid
bid_of_point : (bids : List PlainBid) (p : PlainBid → Bool) (dummy : Option ℕ) → ((b : PlainBid) → p b ≡ true → b.dummy ≡ dummy)
    → (points : List (Atom (List ℕ))) → All (Contains (map atom_of (filter p bids))) points → (bundle : List ℕ) (price : ℕ)
    → price_on points bundle ≡ Some price → Contains bids (record { price = price; goods = bundle; dummy = dummy })
bid_of_point bids p dummy same points are bundle price e =
    let atoms = map atom_of (filter p bids) in
    let r = Contains-unmap atom_of (filter p bids) _ (All-contains (Contains atoms) points _ are (bid_of_price points bundle price e)) in
    let s = Contains-filter_parts p bids r.0 r.1 in
    let is : r.0 ≡ record { price = price; goods = bundle; dummy = dummy } = grind (arith, same r.0 s.1) in
    subst (Contains bids) is s.0

module _ (f : PlainFile) (plain : IsPlainFile f) where
  atoms : HasAtoms (auction_from f)
  atoms = HasAtoms-file f plain

  canonical_is : auction_from (canonical_file f) ≡ canonical_auction (auction_from f)
  canonical_is = auction_from-file_from (canonical_auction (auction_from f))

  atoms_of_dummy : (d : ℕ) → d < f.dummy → All (IsAtom f.goods) (xor_atoms_of f.bids d)
  atoms_of_dummy d l =
      let bidders = map (xor_atoms_of f.bids) (range_with_len 0 f.dummy) in
      let long = length-map-range_with_len (xor_atoms_of f.bids) 0 f.dummy in
      subst (All (IsAtom f.goods)) (get_or-map-range_with_len (xor_atoms_of f.bids) 0 f.dummy d d [] l (omega arith))
      (All-get_or (All (IsAtom f.goods)) bidders d [] (omega arith) atoms.xor_atoms)

  -- ---- a price on one side

  or_bid_of : (bundle : List ℕ) (o : Option ℕ) → o ≡ price_on (auction_from (canonical_file f)).or_atoms bundle → IsBidOf f None bundle o
  or_bid_of bundle None e = tt
  or_bid_of bundle (Some price) e =
      bid_of_point f.bids (λ b. is_none b.dummy) None (λ b t. none_is b.dummy t) (or_points f.goods (or_atoms_of f.bids))
      (or_points_are_atoms f.goods (or_atoms_of f.bids) (on_bundles f.goods (or_atoms_of f.bids) atoms.or_atoms)) bundle price
      (sym (e ∙ ap (λ (a : PlainAuction). price_on a.or_atoms bundle) canonical_is))

  xor_bid_of : (o : Option ℕ) → IsDummyBelow (length (kept_dummies f)) o → (bundle : List ℕ) (p : Option ℕ)
      → p ≡ price_on (bids_at (auction_from (canonical_file f)).xor_bidders o) bundle → IsBidOf f (named_dummy (kept_dummies f) o) bundle p
  xor_bid_of o l bundle None e = tt
  xor_bid_of None l bundle (Some price) e = absurd (cc)
  xor_bid_of (Some index) l bundle (Some price) e =
      let d = get_or (kept_dummies f) index 0 in
      let bids = xor_atoms_of f.bids d in
      let below = (kept_dummies-below f d (Contains-get_or (kept_dummies f) index 0 l)).0 in
      let bidder : bidder_at (auction_from (canonical_file f)).xor_bidders index ≡ points_of_dummy f d =
      ap (λ (a : PlainAuction). bidder_at a.xor_bidders index) canonical_is
      ∙ sym (ap (λ (bs : List (List (Atom (List ℕ)))). bidder_at bs index) (points_of_kept_dummies f))
      ∙ get_or-map (points_of_dummy f) (kept_dummies f) index 0 [] l in
      bid_of_point f.bids (λ b. is_dummy d b.dummy) (Some d) (λ b t. some_is d b.dummy t) (points_of_dummy f d)
      (xor_points_are_atoms f.goods bids (just_bundles f.goods bids (on_bundles f.goods bids (atoms_of_dummy d below)))) bundle price
      (sym (e ∙ ap (λ (bs : List (Atom (List ℕ))). price_on bs bundle) bidder))

module _ (f g : PlainFile) (plain : IsPlainFile f) (also : IsPlainFile g) where
  pub or_changes_of : (changes : List PlainChange)
      → ArePriceChanges (auction_from (canonical_file f)).or_atoms (auction_from (canonical_file g)).or_atoms changes → All (IsOfBids f g None None) changes
  or_changes_of changes are =
      All-weaker (IsPriceChange (auction_from (canonical_file f)).or_atoms (auction_from (canonical_file g)).or_atoms) (IsOfBids f g None None)
      (λ c is. record { left = or_bid_of f plain c.bundle c.left is.on_left; right = or_bid_of g also c.bundle c.right is.on_right }) changes are.each

  pub bidder_changes_of : (changes : List PlainBidderChange)
      → AreBidderChanges (auction_from (canonical_file f)).xor_bidders (auction_from (canonical_file g)).xor_bidders changes → All (IsOfBidders f g) changes
  bidder_changes_of changes are = λ k d l.
      let c = get_or changes k d in
      let lefts = lefts_below f g changes are k d l in
      let rights = rights_below f g changes are k d l in
      record {
        left = lefts;
        right = rights;
        bids = All-weaker (IsPriceChange (bids_at (auction_from (canonical_file f)).xor_bidders c.left)
            (bids_at (auction_from (canonical_file g)).xor_bidders c.right))
            (IsOfBids f g (named_dummy (kept_dummies f) c.left) (named_dummy (kept_dummies g) c.right))
            (λ p is. record {
              left = xor_bid_of f plain c.left lefts p.bundle p.left is.on_left;
              right = xor_bid_of g also c.right rights p.bundle p.right is.on_right;
            })
            c.bids (are.each k d l).bids.each;
      }

-- what holds of each as it is seen, holds of each
pub seen_at : {X Y : Type 0} (P : Y → Type 0) (seen : X → Y) (xs : List X) (i : ℕ) (d : X) → i < length xs → All P (map seen xs) → P (seen (get_or xs i d))
seen_at P seen xs i d l all =
    let long = length-map xs seen in
    subst P (get_or-map seen xs i d (seen d) l) (all i (seen d) (omega (arith, long)))
