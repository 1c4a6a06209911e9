-- Each change of a bidder has a bid. The idea: without one both sides have the same bids, but two equal bidders are no change, and no bidder
-- of a canonical auction is without a bid.
use Rattle.analysis.proofs.Common.{rules, ◌≡◌, ◌≢◌, ℕ, ◌<◌, List, [], refl, sym, ap, subst, arith, Option, Some, None, All, Contains, filter, both_ways, Atom}
use Rattle.analysis.proofs.Common.{All-contains, All-map, PlainAuction, AllPairs-nil, bidder_cmp_total, bidder_cmp_equal, All-sort_by, bidder_cmp, count_of}
use Rattle.analysis.proofs.Common.{xor_table, IsBefore, IsInOrder, on_bundles, All-from_Contains, Contains-filter_parts, xor_points, IsCanonical, each_in_order}
use Rattle.analysis.proofs.Common.{counted_is_there, HasAtoms, PlainBidderChange, IsBidderChange, AreBidderChanges, bidder_at, bids_at, same_bids, is_nonzero}
use Rattle.analysis.proofs.Common.{no_xor_points, points_of_bidders}
use Rattle.analysis.proofs.Comparing.BidsOfBidders.{none_of_both}
use Rattle.analysis.proofs.Comparing.LeftBidders.{left_is_more, none_on_both, right_is_more}

-- ---- a bidder of a canonical auction has a bid

module _ (a : PlainAuction) (h : HasAtoms a) (canonical : IsCanonical a) where
  points_there : All (λ x. x ≢ []) (points_of_bidders a.goods a.xor_bidders)
  points_there = let nonzero = filter (λ b. is_nonzero (xor_table b a.goods)) a.xor_bidders in
      All-map (λ x. x ≢ []) (xor_points a.goods) nonzero
      (All-from_Contains (λ b. xor_points a.goods b ≢ []) nonzero (λ b c e.
      let there = Contains-filter_parts (λ b. is_nonzero (xor_table b a.goods)) a.xor_bidders b c in
      search (rules, on_bundles, All-contains, both_ways, no_xor_points)))

  bids_there : All (λ x. x ≢ []) a.xor_bidders
  bids_there = subst (All (λ x. x ≢ [])) (ap (λ (b : PlainAuction). b.xor_bidders) canonical)
      (All-sort_by bidder_cmp (λ x. x ≢ []) (points_of_bidders a.goods a.xor_bidders) points_there)

-- ---- the changes

-- the bidder is one of its file
bidder_there : (bidders : List (List (Atom (List ℕ)))) (bidder : List (Atom (List ℕ))) (n : ℕ) → n < count_of bidder_cmp bidder bidders
    → Contains bidders bidder
bidder_there bidders bidder n more = counted_is_there bidder_cmp bidder_cmp_total bidder_cmp_equal bidder bidders (omega arith)

module _ (a b : PlainAuction) (h : HasAtoms a) (k : HasAtoms b) (canonical : IsCanonical a) (also : IsCanonical b)
    (changes : List PlainBidderChange) (are : AreBidderChanges a.xor_bidders b.xor_bidders changes) where
  -- without a bid both sides have the same bids
  same_of_both : (c : PlainBidderChange) → IsBidderChange a.xor_bidders b.xor_bidders c → c.bids ≡ [] → (o p : Option ℕ) → c.left ≡ o → c.right ≡ p
      → IsInOrder (bids_at a.xor_bidders o) → IsInOrder (bids_at b.xor_bidders p) → bids_at a.xor_bidders o ≡ bids_at b.xor_bidders p
  same_of_both c is none o p e f s t = search (rules, same_bids)

  no_bids : IsInOrder []
  no_bids = AllPairs-nil IsBefore

  some_bid : (c : PlainBidderChange) → Contains changes c → c.bids ≡ [] → (o p : Option ℕ) → c.left ≡ o → c.right ≡ p → ⊥
  some_bid c there none o p e f = by o p e f
    where
      is : IsBidderChange a.xor_bidders b.xor_bidders c
      is = All-contains (IsBidderChange a.xor_bidders b.xor_bidders) changes c are.each there

      left_there : (i : ℕ) → c.left ≡ Some i → Contains a.xor_bidders (bidder_at a.xor_bidders i)
      left_there i e = bidder_there a.xor_bidders (bidder_at a.xor_bidders i) (count_of bidder_cmp (bidder_at a.xor_bidders i) b.xor_bidders)
          (left_is_more a.xor_bidders b.xor_bidders changes are c i there e)

      right_there : (j : ℕ) → c.right ≡ Some j → Contains b.xor_bidders (bidder_at b.xor_bidders j)
      right_there j f = bidder_there b.xor_bidders (bidder_at b.xor_bidders j) (count_of bidder_cmp (bidder_at b.xor_bidders j) a.xor_bidders)
          (right_is_more a.xor_bidders b.xor_bidders changes are c j there f)

      left_ordered : (i : ℕ) → c.left ≡ Some i → IsInOrder (bidder_at a.xor_bidders i)
      left_ordered i e = All-contains IsInOrder a.xor_bidders (bidder_at a.xor_bidders i) (each_in_order a canonical) (left_there i e)

      right_ordered : (j : ℕ) → c.right ≡ Some j → IsInOrder (bidder_at b.xor_bidders j)
      right_ordered j f = All-contains IsInOrder b.xor_bidders (bidder_at b.xor_bidders j) (each_in_order b also) (right_there j f)

      by : (o p : Option ℕ) → c.left ≡ o → c.right ≡ p → ⊥
      by (Some i) (Some j) e f =
          All-contains (λ (d : PlainBidderChange). (m n : ℕ) → d.left ≡ Some m → d.right ≡ Some n
          → bidder_at a.xor_bidders m ≡ bidder_at b.xor_bidders n → ⊥) changes c
          (none_on_both a.xor_bidders b.xor_bidders changes are) there i j e f
          (same_of_both c is none (Some i) (Some j) e f (left_ordered i e) (right_ordered j f))
      by (Some i) None e f =
          All-contains (λ (x : List (Atom (List ℕ))). x ≢ []) a.xor_bidders (bidder_at a.xor_bidders i) (bids_there a h canonical) (left_there i e)
          (same_of_both c is none (Some i) None e f (left_ordered i e) no_bids)
      by None (Some j) e f =
          All-contains (λ (x : List (Atom (List ℕ))). x ≢ []) b.xor_bidders (bidder_at b.xor_bidders j) (bids_there b k also) (right_there j f)
          (sym (same_of_both c is none None (Some j) e f no_bids (right_ordered j f)))
      by None None e f = none_of_both c.left c.right e f is.some

  pub each_has_a_bid : All (λ (c : PlainBidderChange). c.bids ≢ []) changes
  each_has_a_bid = All-from_Contains (λ (c : PlainBidderChange). c.bids ≢ []) changes (λ c there none. some_bid c there none c.left c.right refl refl)
