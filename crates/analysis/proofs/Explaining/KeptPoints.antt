-- A bidder's points are its bids in the canonical file. So a best bid is there exactly if it is kept.
use Rattle.analysis.proofs.Common.{rules, ◌≡◌, ℕ, ◌<◌, true, List, [], length, get_or, Option, Some, None, sym, ap, ◌∙◌, subst, arith, Contains, slice_get}
use Rattle.analysis.proofs.Common.{filter, range_with_len, unwrap_or, false_from_ne_true, Contains-get_or, slice_get_within, slice_get-get_or, PlainBid, Atom}
use Rattle.analysis.proofs.Common.{get_or_from_slice_get, PlainFile, IsDummyBelow, IsPlainFile, Bounded, atom_of, or_atoms_of, xor_atoms_of, best_bids, bid_at}
use Rattle.analysis.proofs.Common.{Contains-filter, Contains-filter_parts, find_first, bid_from, kept_bids, kept_dummies, are_alike, is_best, IsKeptAs}
use Rattle.analysis.proofs.Common.{kept_bid, kept_number, points_of, point_number, is_kept_atom, same_Some, range_contains}
use Rattle.analysis.proofs.Explaining.BestBids.{alike_from}
use Rattle.analysis.proofs.Explaining.BestNumbers.{best_number_is, numbers_rise}
use Rattle.analysis.proofs.Explaining.Deciding.{priced_within}
use Rattle.analysis.proofs.Explaining.KeptBids.{kept-is-best, kept-once, or-points-are-kept, or_on, xor-points-are-kept, xor_on, bundle_here, dummy-is-kept}
use Rattle.analysis.proofs.Explaining.KeptBidsBest.{atoms_of_bidder, best-once, greatest-is-best, one_key_same}
use Rattle.analysis.proofs.Explaining.Packings.{IsPointOf}
use Rattle.analysis.proofs.Explaining.PointFates.{best_bids-has, or_kept_are_points, xor_kept_are_points}

-- ---- bids of the canonical file

-- the bid of the file that a bid of the canonical file is
pub record IsBidOf (f : PlainFile) (k : ℕ) (target : PlainBid) (number : ℕ) : Type 0 where
  pub within : number < length f.bids
  pub is : bid_at f number ≡ target
  pub kept : IsKeptAs f number k

pub bid_of : (f : PlainFile) → IsPlainFile f → (k : ℕ) (target : PlainBid) → slice_get (kept_bids f) k ≡ Some target → (j : ℕ) × IsBidOf f k target j
bid_of f is k target e =
    let r = kept-is-best f is k (slice_get_within (kept_bids f) k target e) in
    (r.0, record { within = r.1; is = same_Some (bid_at f r.0) target (sym r.2.is ∙ e); kept = r.2 })

-- the bidder is in the canonical file
abbrev pub IsKeptBidder : PlainFile → Option ℕ → Type 0
IsKeptBidder f None = Unit {0}
IsKeptBidder f (Some d) = Contains (kept_dummies f) d

pub bidder_is_kept : (f : PlainFile) → IsPlainFile f → (i : ℕ) → i < length f.bids → 0 < (bid_at f i).price → (o : Option ℕ) → (bid_at f i).dummy ≡ o
    → IsKeptBidder f o
bidder_is_kept f is i l positive None e = tt
bidder_is_kept f is i l positive (Some d) e = dummy-is-kept f is i l d e positive

pub point_is_kept : (f : PlainFile) (dummy : Option ℕ) → IsKeptBidder f dummy → (a : Atom (List ℕ)) → Contains (points_of f dummy) a
    → (k : ℕ) × (slice_get (kept_bids f) k ≡ Some (bid_from dummy a))
point_is_kept f None kept a c = or-points-are-kept f a c
point_is_kept f (Some d) kept a c = xor-points-are-kept f d kept a c

-- the best bid on the bundle of a point is the one that it is
pub point_number_is : (f : PlainFile) → IsPlainFile f → (dummy : Option ℕ) → IsKeptBidder f dummy → (p : ℕ) → p < length (points_of f dummy)
    → IsPointOf f dummy (get_or (points_of f dummy) p (record { bundle = []; price = 0 })) (point_number f dummy p)
point_number_is f is dummy kept p l = let a : Atom (List ℕ) = get_or (points_of f dummy) p (record { bundle = []; price = 0 }) in
    let k = point_is_kept f dummy kept a (Contains-get_or (points_of f dummy) p (record { bundle = []; price = 0 }) l) in
    let j = bid_of f is k.0 (bid_from dummy a) k.1 in
    search (rules, one_key_same, best_number_is, is)

-- and the bid of the canonical file on the goods of a kept bid is that bid
pub kept_number_is : (f : PlainFile) → IsPlainFile f → (i k : ℕ) → IsKeptAs f i k → kept_number f i ≡ k
kept_number_is f is i k kept = let count = length (kept_bids f) in
    let within = slice_get_within (kept_bids f) k (bid_at f i) kept.is in
    let here : kept_bid f k ≡ bid_at f i = get_or_from_slice_get (kept_bids f) k (bid_at f i) _ kept.is in
    ap (λ (o : Option ℕ). unwrap_or o 0)
    (find_first (λ x y. x < y) (λ k. are_alike (kept_bid f k) (bid_at f i)) (range_with_len 0 count) (numbers_rise count) k (range_contains count k within)
    (search (rules, alike_from, one_key_same))
    (λ y less. false_from_ne_true (are_alike (kept_bid f y) (bid_at f i)) (λ t.
    let there : slice_get (kept_bids f) y ≡ Some (kept_bid f y) = slice_get-get_or (kept_bids f) y _ (omega arith) in
    let j = bid_of f is y (kept_bid f y) there in
    let alike : are_alike (bid_at f j.0) (bid_at f i) ≡ true = ap (λ (b : PlainBid). are_alike b (bid_at f i)) j.1.is ∙ t in
    let one : j.0 ≡ i = search (rules, best-once, priced_within, kept) in
    let same : y ≡ k = kept-once f y k (omega arith) within (there ∙ ap Some (sym j.1.is ∙ ap (bid_at f) one) ∙ sym kept.is) in
    omega arith)))

-- ---- a best bid is a point exactly if it is kept

pub kept_points : (f : PlainFile) → IsPlainFile f → (dummy : Option ℕ) → IsDummyBelow f.dummy dummy
    → filter (is_kept_atom f dummy) (best_bids f.goods (atoms_of_bidder f dummy)) ≡ points_of f dummy
kept_points f is None below = or_kept_are_points f.goods (or_atoms_of f.bids) (or_on f is) Bounded
kept_points f is (Some d) below = xor_kept_are_points f.goods (xor_atoms_of f.bids d) (xor_on f is d below)

pub best_is_there : (f : PlainFile) → IsPlainFile f → (i : ℕ) → i < length f.bids → 0 < (bid_at f i).price → is_best f i ≡ true
    → Contains (best_bids f.goods (atoms_of_bidder f (bid_at f i).dummy)) (atom_of (bid_at f i))
best_is_there f is i l positive best = search (rules, best_bids-has, atoms_of_bidder, bundle_here, greatest-is-best)

pub kept_if_point : (f : PlainFile) → IsPlainFile f → (dummy : Option ℕ) → IsDummyBelow f.dummy dummy → (a : Atom (List ℕ)) → Contains (points_of f dummy) a
    → is_kept_atom f dummy a ≡ true
kept_if_point f is dummy below a c = (Contains-filter_parts (is_kept_atom f dummy) (best_bids f.goods (atoms_of_bidder f dummy)) a
    (search (rules, kept_points, is))).1

pub point_if_kept : (f : PlainFile) → IsPlainFile f → (dummy : Option ℕ) → IsDummyBelow f.dummy dummy → (a : Atom (List ℕ))
    → Contains (best_bids f.goods (atoms_of_bidder f dummy)) a → is_kept_atom f dummy a ≡ true → Contains (points_of f dummy) a
point_if_kept f is dummy below a c t = subst (λ (xs : List (Atom (List ℕ))). Contains xs a) (kept_points f is dummy below) (search (rules, Contains-filter))
