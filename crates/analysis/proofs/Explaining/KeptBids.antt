-- The bids of a file's canonical file. The idea: a point's price is the value of its bundle, which no bid there exceeds, so
-- it is the price of a best bid; and the points of a bidder are on different bundles.
use Rattle.analysis.proofs.Common.{common_steps, [], rules, ◌≡◌, ℕ, ◌+◌, ◌<◌, ◌≤◌, not, eqb, ⊎_elim, List, ◌∷◌, ◌++◌, length, map, Option, Some, None, refl, ap}
use Rattle.analysis.proofs.Common.{sym, ap₂, ◌∙◌, subst, arith, All, Contains, slice_get, flat_map, range_with_len, unwrap_or, get_or-append_seam, ne_eqb, Atom}
use Rattle.analysis.proofs.Common.{not_from_false, map-append, length-append, append_assoc, flat_map-cons, All-contains, All-from_recursion, slice_get-get_or}
use Rattle.analysis.proofs.Common.{Contains-append_left, Contains-append_right, Contains-append_cases, slice_get_within, get_or_from_slice_get, IsBundle, IsBid}
use Rattle.analysis.proofs.Common.{all_bundles_has, inside_refl, PlainBid, PlainFile, IsDummyBelow, IsPlainFile, IsAtom, atom_of, auction_from, or_atoms_of}
use Rattle.analysis.proofs.Common.{xor_atoms_of, xor_table, xor_value, IsAuction-auction_from, AllPairs-map, Contains-map, Contains-unmap}
use Rattle.analysis.proofs.Common.{IsBefore, IsInOrder, or_points, on_bundles, list_any_has, IsOnBundle, points_where-in_order, xor_value-member, bid_from}
use Rattle.analysis.proofs.Common.{dummy_bids, points_of_kept_dummies, kept_dummies-differ, kept_dummies-below, kept_bids, kept_dummies}
use Rattle.analysis.proofs.Common.{named_bid, points_of_dummy, bid_at, IsKeptAs, points_of, IsAuction, before_itself, kept_dummies-has, range_contains}
use Rattle.analysis.proofs.Explaining.BestBids.{element_at}
use Rattle.analysis.proofs.Explaining.KeptBidsLists.{in_flat_map, from_flat_map, AreDifferent, different_indices, different_append, different_flat_map}
use Rattle.analysis.proofs.Explaining.KeptBidsBest.{atom_there, atoms_of_bidder, best_of_greatest, is_dummy-same}
use Rattle.analysis.proofs.Explaining.PointFates.{IsGreatest, or_is_greatest, xor_is_greatest}

-- ---- the bids, bidder by bidder

map_of_map : {X Y Z : Type 0} (h : Y → Z) (g : X → Y) (k : X → Z) → ((x : X) → h (g x) ≡ k x) → (xs : List X) → map h (map g xs) ≡ map k xs
map_of_map h g k e [] = refl
map_of_map {Z = Z} h g k e (x ∷ xs) = ap₂ (λ (z : Z) (zs : List Z). z ∷ zs) (e x) (map_of_map h g k e xs)

-- the bids that a bidder keeps
abbrev pub bids_of_dummy : PlainFile → ℕ → List PlainBid
bids_of_dummy f d = map (bid_from (Some d)) (points_of_dummy f d)

abbrev pub or_points_of : PlainFile → List (Atom (List ℕ))
or_points_of f = or_points f.goods (or_atoms_of f.bids)

named_bids : (points : ℕ → List (Atom (List ℕ))) (before ds : List ℕ) (n : ℕ) → length before ≡ n
    → map (named_bid (before ++ ds)) (dummy_bids n (map points ds)) ≡ flat_map (λ d. map (bid_from (Some d)) (points d)) ds
named_bids points before [] n l = refl
named_bids points before (d ∷ ds) n l = let rest = named_bids points (before ++ d ∷ []) ds (n + 1) (let long = length-append before (d ∷ []) in omega arith) in
    search (rules, rest, map-append, map_of_map, get_or-append_seam, append_assoc, flat_map-cons)

-- the OR bidder's, and then each XOR bidder's
pub kept_bids_are : (f : PlainFile) → kept_bids f ≡ map (bid_from None) (or_points_of f) ++ flat_map (bids_of_dummy f) (kept_dummies f)
kept_bids_are f = let rest = named_bids (points_of_dummy f) [] (kept_dummies f) 0 refl in
    search (rules, rest, (map_of_map (named_bid (kept_dummies f)) (bid_from None) (bid_from None)), map-append, (points_of_kept_dummies f))

-- ---- points are among them

listed : (xs : List PlainBid) (b : PlainBid) → Contains xs b → (k : ℕ) × (slice_get xs k ≡ Some b)
listed xs b c = (c.0, slice_get-get_or xs c.0 b c.1 ∙ ap Some c.2)

pub or-points-are-kept : (f : PlainFile) → (a : Atom (List ℕ)) → Contains (or_points_of f) a → (k : ℕ) × (slice_get (kept_bids f) k ≡ Some (bid_from None a))
or-points-are-kept f a c = grind (arith, common_steps, kept_bids_are, listed, Contains-append_left, Contains-map)

pub xor-points-are-kept : (f : PlainFile) → (d : ℕ) → Contains (kept_dummies f) d → (a : Atom (List ℕ)) → Contains (points_of_dummy f d) a
    → (k : ℕ) × (slice_get (kept_bids f) k ≡ Some (bid_from (Some d) a))
xor-points-are-kept f d e a c =
    let there = in_flat_map (bids_of_dummy f) (kept_dummies f) d (bid_from (Some d) a) e (grind (arith, common_steps, Contains-map)) in
    search (rules, (listed _ _ (Contains-append_right (map (bid_from None) (or_points_of f)) _ _ there)), kept_bids_are)

-- ---- no two are equal

same_bundles : (dummy : Option ℕ) (points : List (Atom (List ℕ))) → IsInOrder points → AreDifferent (map (bid_from dummy) points)
same_bundles dummy points order = AllPairs-map IsBefore (λ b c. b ≡ c → ⊥) (bid_from dummy) (search (rules, before_itself)) points order

bids-different : (f : PlainFile) → AreDifferent (map (bid_from None) (or_points_of f) ++ flat_map (bids_of_dummy f) (kept_dummies f))
bids-different f = different_append (map (bid_from None) (or_points_of f)) (flat_map (bids_of_dummy f) (kept_dummies f))
    (search (rules, same_bundles, points_where-in_order))
    (different_flat_map (bids_of_dummy f) (λ (b : PlainBid). unwrap_or b.dummy 0) (kept_dummies f) (kept_dummies-differ f)
    (search (rules, same_bundles, points_where-in_order)) (λ d b c. search (rules, (Contains-unmap (bid_from (Some d)) (points_of_dummy f d) b c))))
    (λ b c e. let s = from_flat_map (bids_of_dummy f) (kept_dummies f) b e in
    search (rules, (Contains-unmap (bid_from None) (or_points_of f) b c), (Contains-unmap (bid_from (Some s.0)) (points_of_dummy f s.0) b s.2)))

pub kept-once : (f : PlainFile) → (k l : ℕ) → k < length (kept_bids f) → l < length (kept_bids f)
    → slice_get (kept_bids f) k ≡ slice_get (kept_bids f) l → k ≡ l
kept-once f = different_indices (kept_bids f) (subst (λ (bs : List PlainBid). AreDifferent bs) (sym (kept_bids_are f)) (bids-different f))

-- ---- each is a best bid of the file

auction : (f : PlainFile) → IsPlainFile f → IsAuction f.goods (auction_from f)
auction f is = IsAuction-auction_from f.goods f is (omega arith)

pub or_on : (f : PlainFile) → IsPlainFile f → All (IsOnBundle f.goods) (or_atoms_of f.bids)
or_on f is = on_bundles f.goods (or_atoms_of f.bids) (auction f is).or_atoms

pub xor_on : (f : PlainFile) → IsPlainFile f → (d : ℕ) → d < f.dummy → All (IsOnBundle f.goods) (xor_atoms_of f.bids d)
xor_on f is d l = on_bundles f.goods (xor_atoms_of f.bids d) (All-contains (All (IsAtom f.goods)) _ (xor_atoms_of f.bids d) (auction f is).xor_atoms
    (Contains-map (xor_atoms_of f.bids) (range_with_len 0 f.dummy) d (range_contains f.dummy d l)))

-- a point of a bidder that the file has
abbrev IsPoint : PlainFile → PlainBid → Type 0
IsPoint f b = IsDummyBelow f.dummy b.dummy × Contains (points_of f b.dummy) (atom_of b)

pub kept_is_point : (f : PlainFile) (k : ℕ) (b : PlainBid) → slice_get (kept_bids f) k ≡ Some b
    → IsDummyBelow f.dummy b.dummy × Contains (points_of f b.dummy) (atom_of b)
kept_is_point f k b e = let there : Contains (kept_bids f) b = search (rules, slice_get_within, get_or_from_slice_get) in
    ⊎_elim (λ (c : Contains (map (bid_from None) (or_points_of f)) b). search (rules, (Contains-unmap (bid_from None) (or_points_of f) b c)))
    (λ (c : Contains (flat_map (bids_of_dummy f) (kept_dummies f)) b). let s = from_flat_map (bids_of_dummy f) (kept_dummies f) b c in
    search (rules, (Contains-unmap (bid_from (Some s.0)) (points_of_dummy f s.0) b s.2), (kept_dummies-below f s.0 s.1)))
    (Contains-append_cases (map (bid_from None) (or_points_of f)) (flat_map (bids_of_dummy f) (kept_dummies f)) b (search (rules, kept_bids_are)))

point_is_greatest : (f : PlainFile) → IsPlainFile f → (dummy : Option ℕ) → IsDummyBelow f.dummy dummy → (a : Atom (List ℕ)) → Contains (points_of f dummy) a
    → IsGreatest f.goods (atoms_of_bidder f dummy) a
point_is_greatest f is None below a c = or_is_greatest f.goods (or_atoms_of f.bids) (or_on f is) a c
point_is_greatest f is (Some d) below a c = xor_is_greatest f.goods (xor_atoms_of f.bids d) (xor_on f is d below) a c

pub kept-is-best : (f : PlainFile) → IsPlainFile f → (k : ℕ) → k < length (kept_bids f) → (j : ℕ) × (j < length f.bids) × IsKeptAs f j k
kept-is-best f is k l = let b = element_at (kept_bids f) k l in
    let at = slice_get-get_or (kept_bids f) k b.0 l ∙ ap Some (b.1 b.0) in
    let point = kept_is_point f k b.0 at in
    let g = point_is_greatest f is b.0.dummy point.0 (atom_of b.0) point.1 in
    search (rules, (g.greatest), best_of_greatest)

-- ---- a bid of the file with a price above 0

pub bid_here : (f : PlainFile) → IsPlainFile f → (i : ℕ) → i < length f.bids → IsBid f.goods f.dummy (bid_at f i)
bid_here f is i l = All-from_recursion (IsBid f.goods f.dummy) f.bids is.each i _ l

pub bundle_here : (f : PlainFile) → IsPlainFile f → (i : ℕ) → i < length f.bids → IsBundle f.goods (bid_at f i).goods
bundle_here f is i l = let b = bid_here f is i l in (b.rising, b.below)

below_here : (f : PlainFile) → IsPlainFile f → (i : ℕ) → i < length f.bids → (d : ℕ) → (bid_at f i).dummy ≡ Some d → d < f.dummy
below_here f is i l d some = subst (λ (o : Option ℕ). IsDummyBelow f.dummy o) some (bid_here f is i l).dummy

within_value : (f : PlainFile) (i : ℕ) → i < length f.bids → (d : ℕ) → (bid_at f i).dummy ≡ Some d
    → (bid_at f i).price ≤ xor_value (xor_atoms_of f.bids d) (bid_at f i).goods
within_value f i l d some = xor_value-member (xor_atoms_of f.bids d) (atom_of (bid_at f i)) (search (rules, atom_there, is_dummy-same))
    (bid_at f i).goods (inside_refl (bid_at f i).goods)

-- its bidder is in the canonical file
pub dummy-is-kept : (f : PlainFile) → IsPlainFile f → (i : ℕ) → i < length f.bids → (d : ℕ) → (bid_at f i).dummy ≡ Some d → 0 < (bid_at f i).price
    → Contains (kept_dummies f) d
dummy-is-kept f is i l d some positive = let low = within_value f i l d some in
    kept_dummies-has f d (below_here f is i l d some) (list_any_has (λ value. not (eqb value 0)) (xor_table (xor_atoms_of f.bids d) f.goods)
    (xor_value (xor_atoms_of f.bids d) (bid_at f i).goods) (search (rules, Contains-map, all_bundles_has, bundle_here))
    (search (rules, not_from_false, ne_eqb)))
