-- Bids by number, and a bidder's best bid on a bundle. The best one has the highest price, and it is
-- of those the one of the smallest number.
use Rattle.std.specs.Prelude.{◌≡◌, ℕ, ◌+◌, ◌<◌, Bool, true, ◌&&◌, ◌||◌, not, ◌==◌, nat_lt, List, [], length}
use Rattle.std.specs.Prelude.{slice_index_or, Option, Some, None}
use Rattle.std.specs.List.{find, list_any, range_with_len}
use Rattle.std.specs.Ordering.{is_eq}
use Rattle.goods_set.specs.Orders.{bundle_cmp}
use Rattle.bid_file.specs.Files.{PlainBid, PlainFile}

-- the bid of number i
abbrev pub bid_at : PlainFile → ℕ → PlainBid
bid_at f i = slice_index_or f.bids i (record { price = 0; goods = []; dummy = None })

-- the numbers of the bids
abbrev pub numbers_of : PlainFile → List ℕ
numbers_of f = range_with_len 0 (length f.bids)

-- the bidder of a bid: 0 is the OR bidder, and d + 1 the XOR bidder of the dummy good d
abbrev pub bidder_of : Option ℕ → ℕ
bidder_of None = 0
bidder_of (Some d) = d + 1

-- two bids of one bidder on the same goods
abbrev pub are_alike : PlainBid → PlainBid → Bool
are_alike a b = (bidder_of a.dummy == bidder_of b.dummy) && is_eq (bundle_cmp a.goods b.goods)

-- bid i is of the same bidder as bid j, on the same goods, and has a higher price, or an equal one and a smaller number
abbrev pub is_better : PlainFile → ℕ → ℕ → Bool
is_better f i j = are_alike (bid_at f i) (bid_at f j)
    && (nat_lt (bid_at f j).price (bid_at f i).price || ((bid_at f i).price == (bid_at f j).price && nat_lt i j))

-- whether bid i has its bidder's highest price on its goods, and then the smallest number
abbrev pub is_best : PlainFile → ℕ → Bool
is_best f i = not (list_any (λ j. is_better f j i) (numbers_of f))

-- the number of a bidder's best bid on these goods, if any
abbrev pub best_number : PlainFile → Option ℕ → List ℕ → Option ℕ
best_number f dummy goods =
    find (λ i. are_alike (bid_at f i) (record { price = 0; goods = goods; dummy = dummy }) && is_best f i)
    (numbers_of f)

-- bid j is the best of bid i's bidder on its goods
pub record IsBestFor (f : PlainFile) (i j : ℕ) : Type 0 where
  pub within : j < length f.bids
  pub alike : are_alike (bid_at f j) (bid_at f i) ≡ true
  pub best : is_best f j ≡ true
