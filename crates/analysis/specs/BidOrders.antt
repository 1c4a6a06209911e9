-- The bids of a file in order. The best of a bidder's bids on a bundle is the first of them.
use Rattle.std.specs.Prelude.{◌≡◌, ℕ, ◌<◌, List, length, IsPermutation, slice_index_or}
use Rattle.std.specs.List.Sorted.{IsSortedBy}
use Rattle.std.specs.Ordering.{nat_cmp, ordering_then, is_lt}
use Rattle.std.specs.declared.cmp.Ordering.{Ordering}
use Rattle.goods_set.specs.Orders.{bundle_cmp}
use Rattle.bid_file.specs.Files.{PlainBid, PlainFile}
use Rattle.bid_file.specs.Views.{seen_bid}
use Rattle.analysis.specs.Bids.{bid_at, bidder_of}
use Rattle.analysis.specs.declared.reasons.best.NumberedBid.{NumberedBid}

-- by bidder, and of one bidder by goods
abbrev pub key_cmp : PlainBid → PlainBid → Ordering
key_cmp a b = ordering_then (nat_cmp (bidder_of a.dummy) (bidder_of b.dummy)) (bundle_cmp a.goods b.goods)

-- by bidder and goods, the higher price first, and of equal ones by number
abbrev pub numbered_cmp : NumberedBid → NumberedBid → Ordering
numbered_cmp a b =
    ordering_then (ordering_then (key_cmp (seen_bid a.bid) (seen_bid b.bid)) (nat_cmp b.bid.price a.bid.price))
    (nat_cmp a.number b.number)

-- the bids of the file by number
pub record AreNumbered (f : PlainFile) (bids : List NumberedBid) : Type 0 where
  pub long : length bids ≡ length f.bids
  pub each : (k : ℕ) (d : NumberedBid) → k < length bids
      → ((slice_index_or bids k d).number ≡ k) × (seen_bid (slice_index_or bids k d).bid ≡ bid_at f k)

-- the bids of the file f by bidder, goods, falling price and number
pub record AreInOrder (f : PlainFile) (bids : List NumberedBid) : Type 0 where
  pub numbered : List NumberedBid
  pub are : AreNumbered f numbered
  pub same : IsPermutation numbered bids
  pub sorted : IsSortedBy (λ a b. is_lt (numbered_cmp a b)) bids

-- the bid is in the ordered list of a file's bids
pub record HasBid (bids : List NumberedBid) (bid : PlainBid) : Type 0 where
  pub file : PlainFile
  pub order : AreInOrder file bids
  pub number : ℕ
  pub within : number < length file.bids
  pub is : bid_at file number ≡ bid
