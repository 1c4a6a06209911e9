-- What holds of the indices of bidders in excess, and of the bidders of canonical files.
use Rattle.analysis.proofs.Common.{rules, ◌≡◌, ℕ, ◌<◌, ◌≤◌, false, List, [], ◌∷◌, length, map, sym, ap, ◌∙◌, subst, arith, All, range_with_len, is_gt, PlainBid}
use Rattle.analysis.proofs.Common.{length-map, All-filter, All-from_recursion, get_or-range_with_len, length-range_with_len, PlainFile, IsPlainFile, Atom}
use Rattle.analysis.proofs.Common.{auction_from, IsAuction-auction_from, AllPairs-cons, AllPairs-nil, IsOrdered, bidder_cmp, IsInOrder, offers, IsCanonical}
use Rattle.analysis.proofs.Common.{canonical_auction, or_atoms_in_order, each_in_order, excess_bidders, NeverFall, All-from_get_or, MAX_DUMMY, AreBidders}
use Rattle.analysis.proofs.Common.{IsCanonicalFile, bidders_ordered, auction_from-file_from}

-- ---- the bidders in excess are bidders

below : (n : ℕ) → All (λ i. i < n) (range_with_len 0 n)
below n = omega (arith, length-range_with_len, All-from_get_or, get_or-range_with_len)

pub excess_within : (bidders : List (List PlainBid)) (others : List (List (Atom (List ℕ)))) (excess : List ℕ)
    → excess ≡ excess_bidders (map offers bidders) others → All (λ index. index < length bidders) excess
excess_within bidders others excess e = subst (All (λ index. index < length bidders)) (sym e) (search (rules, All-filter, length-map, below))

-- ---- the bidders of a canonical file

pub canonical_from_file : (f : PlainFile) → IsCanonicalFile f → IsCanonical (auction_from f)
canonical_from_file f canonical = sym (auction_from-file_from (canonical_auction (auction_from f))) ∙ ap auction_from canonical

pairs_from_ordered : (bidders : List (List (Atom (List ℕ)))) → IsOrdered bidder_cmp bidders → NeverFall bidders
pairs_from_ordered [] h = AllPairs-nil (λ x y. is_gt (bidder_cmp x y) ≡ false)
pairs_from_ordered (b ∷ bidders) h =
    AllPairs-cons (λ x y. is_gt (bidder_cmp x y) ≡ false) b bidders (All-from_recursion (λ y. is_gt (bidder_cmp b y) ≡ false) bidders h.0)
    (pairs_from_ordered bidders h.1)

module _ (f : PlainFile) (plain : IsPlainFile f) (canonical : IsCanonicalFile f) (or_bids : List PlainBid) (xor_bidders : List (List PlainBid))
    (are : AreBidders (auction_from f) or_bids xor_bidders) where
  is_canonical : IsCanonical (auction_from f)
  is_canonical = canonical_from_file f canonical

  pub or_bids_in_order : IsInOrder (offers or_bids)
  or_bids_in_order = subst IsInOrder (sym are.or) (or_atoms_in_order (auction_from f) is_canonical)

  pub bids_of_each_in_order : All IsInOrder (map offers xor_bidders)
  bids_of_each_in_order = subst (All IsInOrder) (sym are.xor) (each_in_order (auction_from f) is_canonical)

  pub bidders_never_fall : NeverFall (map offers xor_bidders)
  bidders_never_fall = subst NeverFall (sym are.xor) (pairs_from_ordered (auction_from f).xor_bidders (bidders_ordered (auction_from f) is_canonical))

  pub few_bidders : length xor_bidders ≤ MAX_DUMMY
  few_bidders = search (rules, IsAuction-auction_from, length-map)
