-- The changes so far, while they are put together.
use Rattle.std.specs.Prelude.{◌≡◌, ℕ, ◌+◌, true, is_some, None, List, ◌++◌, map, All}
use Rattle.std.specs.Ordering.{nat_cmp}
use Rattle.goods_set.specs.Bundles.{IsRising}
use Rattle.valuation.specs.declared.atom.Atom.{Atom}
use Rattle.valuation.specs.Sorting.{count_of}
use Rattle.analysis.specs.BidderChanges.{PlainBidderChange, IsBidderChange, bidder_at, lefts_of, partners_of}
use Rattle.analysis.specs.BidderChanges.{rights_of, waiting_after}

-- Changes of these left bidders, in this order, each with its partner of these right ones. Those in them are the ones
-- that wait no more, and the others still wait in order.
pub record AreLefts (left right : List (List (Atom (List ℕ)))) (lefts excess : List ℕ)
    (changes : List PlainBidderChange) : Type 0 where
  pub each : All (IsBidderChange left right) changes
  pub named : lefts_of changes ≡ lefts
  pub each_left : All (λ c. is_some c.left ≡ true) changes
  pub partners : map (λ c. c.right) changes ≡ partners_of right excess excess (map (bidder_at left) lefts)
  pub taken : (i : ℕ) → count_of nat_cmp i (rights_of changes)
      + count_of nat_cmp i (waiting_after right excess excess (map (bidder_at left) lefts)) ≡ count_of nat_cmp i excess
  pub in_order : IsRising (waiting_after right excess excess (map (bidder_at left) lefts))

-- behind the changes before come changes of these right bidders, each alone
pub record AreRest (left right : List (List (Atom (List ℕ)))) (rest : List ℕ)
    (before after : List PlainBidderChange) : Type 0 where
  pub added : List PlainBidderChange
  pub behind : after ≡ before ++ added
  pub each : All (IsBidderChange left right) added
  pub alone : All (λ c. c.left ≡ None) added
  pub rights : rights_of added ≡ rest
