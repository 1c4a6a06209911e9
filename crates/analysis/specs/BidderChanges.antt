-- XOR bidders that two files do not have equally often. A bidder is named by its index among the bidders of its
-- file, which are in order, equal ones beside one another.
use Rattle.std.specs.Prelude.{◌≡◌, ◌==◌, ℕ, Bool, true, not, nat_lt, Option, Some, None, is_some, ◌||◌}
use Rattle.std.specs.Prelude.{List, [], ◌∷◌, ◌++◌, length, map, drop, slice_index_or, slice_get, All}
use Rattle.std.specs.List.{filter, filter_map, flat_map, range_with_len}
use Rattle.std.specs.Option.{is_none}
use Rattle.std.specs.Ordering.{nat_cmp, ordering_then}
use Rattle.std.specs.declared.cmp.Ordering.{Ordering}
use Rattle.goods_set.specs.Bundles.{IsRising}
use Rattle.goods_set.specs.Orders.{bundle_cmp}
use Rattle.valuation.specs.declared.atom.Atom.{Atom}
use Rattle.valuation.specs.Orders.{bidder_cmp}
use Rattle.valuation.specs.Sorting.{count_of, sort_by}
use Rattle.canon.specs.PriceChanges.{PlainChange, ArePriceChanges, price_on}

-- a left bidder, a right one, or both, and the bids in which they differ
pub record PlainBidderChange : Type 0 where
  pub left : Option ℕ
  pub right : Option ℕ
  pub bids : List PlainChange

-- the bidder at this index
abbrev pub bidder_at : List (List (Atom (List ℕ))) → ℕ → List (Atom (List ℕ))
bidder_at bidders index = slice_index_or bidders index []

-- the bids of the bidder, and none beside no bidder
abbrev pub bids_at : List (List (Atom (List ℕ))) → Option ℕ → List (Atom (List ℕ))
bids_at bidders None = []
bids_at bidders (Some index) = bidder_at bidders index

-- whether the bidder is more often among the bidders from its index on than among the others
abbrev pub is_excess : List (List (Atom (List ℕ))) → List (List (Atom (List ℕ))) → ℕ → Bool
is_excess bidders others index =
    let bidder = bidder_at bidders index in
    nat_lt (count_of bidder_cmp bidder others) (count_of bidder_cmp bidder (drop index bidders))

-- the indices of the bidders in excess, of equal ones the first
--
-- They are there more often than among the others. Of equal bidders the last ones have their equals there.
abbrev pub excess_bidders : List (List (Atom (List ℕ))) → List (List (Atom (List ℕ))) → List ℕ
excess_bidders bidders others = filter (is_excess bidders others) (range_with_len 0 (length bidders))

-- ---- which bidders are side by side

-- those of these bidders that have a bid on the bundle
abbrev pub bidders_on : List (List (Atom (List ℕ))) → List ℕ → List ℕ → List ℕ
bidders_on bidders indices bundle = filter (λ i. is_some (price_on (bidder_at bidders i) bundle)) indices

-- a bundle on which fewer of them have a bid comes first, and of equally rare ones the first in order
abbrev pub rarer : List (List (Atom (List ℕ))) → List ℕ → List ℕ → List ℕ → Ordering
rarer bidders indices one other =
    ordering_then (nat_cmp (length (bidders_on bidders indices one)) (length (bidders_on bidders indices other)))
    (bundle_cmp one other)

-- The partner of a left bidder, of the right bidders that wait: the first that has a bid on the rarest of its bundles,
-- or else on the next rarest, and so on.
abbrev pub partner_of : List (List (Atom (List ℕ))) → List ℕ → List ℕ → List (Atom (List ℕ)) → Option ℕ
partner_of right excess waiting bidder =
    slice_get (flat_map (bidders_on right waiting) (sort_by (rarer right excess) (map (λ a. a.bundle) bidder))) 0

-- those that wait once a partner is taken
abbrev pub without_partner : Option ℕ → List ℕ → List ℕ
without_partner None waiting = waiting
without_partner (Some i) waiting = filter (λ j. not (j == i)) waiting

-- the partners of left bidders, one after the other
abbrev pub partners_of : List (List (Atom (List ℕ))) → List ℕ → List ℕ → List (List (Atom (List ℕ))) → List (Option ℕ)
partners_of right excess waiting [] = []
partners_of right excess waiting (bidder ∷ rest) =
    partner_of right excess waiting bidder
    ∷ partners_of right excess (without_partner (partner_of right excess waiting bidder) waiting) rest

-- those that wait once all of them have theirs
abbrev pub waiting_after : List (List (Atom (List ℕ))) → List ℕ → List ℕ → List (List (Atom (List ℕ))) → List ℕ
waiting_after right excess waiting [] = waiting
waiting_after right excess waiting (bidder ∷ rest) =
    waiting_after right excess (without_partner (partner_of right excess waiting bidder) waiting) rest

-- the partner of each left bidder in excess: the first right one that waits with a bid on the rarest possible of its
-- bundles
abbrev pub all_partners : List (List (Atom (List ℕ))) → List (List (Atom (List ℕ))) → List (Option ℕ)
all_partners left right = partners_of right (excess_bidders right left) (excess_bidders right left)
    (map (bidder_at left) (excess_bidders left right))

-- ---- the changes

-- the indices of the left bidders in changes
abbrev pub lefts_of : List PlainBidderChange → List ℕ
lefts_of changes = filter_map (λ c. c.left) changes

-- the indices of the right bidders in changes
abbrev pub rights_of : List PlainBidderChange → List ℕ
rights_of changes = filter_map (λ c. c.right) changes

-- the changes of a bidder of the left file, alone or beside one of the right file
abbrev pub with_left : List PlainBidderChange → List PlainBidderChange
with_left changes = filter (λ c. is_some c.left) changes

-- and those of a bidder of the right file alone
abbrev pub right_alone : List PlainBidderChange → List PlainBidderChange
right_alone changes = filter (λ c. is_none c.left) changes

-- a bidder at least, and exactly the bids in which the two differ
pub record IsBidderChange (left right : List (List (Atom (List ℕ)))) (c : PlainBidderChange) : Type 0 where
  pub some : is_some c.left || is_some c.right ≡ true
  pub bids : ArePriceChanges (bids_at left c.left) (bids_at right c.right) c.bids

-- each bidder in excess is in one change: left ones in order, with partners; then right ones alone, in order
pub record AreBidderChanges (left right : List (List (Atom (List ℕ)))) (changes : List PlainBidderChange) : Type 0 where
  pub each : All (IsBidderChange left right) changes
  pub lefts : lefts_of changes ≡ excess_bidders left right
  pub rights : (index : ℕ) → count_of nat_cmp index (rights_of changes) ≡ count_of nat_cmp index
      (excess_bidders right left)
  pub partners : map (λ c. c.right) (with_left changes) ≡ all_partners left right
  pub alone_last : changes ≡ with_left changes ++ right_alone changes
  pub alone_in_order : IsRising (rights_of (right_alone changes))
