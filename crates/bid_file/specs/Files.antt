-- Bid files as mathematical values, and what holds of each. By the README of CATS 2.0: bids are numbered from
-- 0, and with G goods and D dummies the real goods are 0 to G - 1 and the dummy goods G to G + D - 1.
use Rattle.std.specs.Prelude.{ℕ, ◌+◌, ◌<◌, ◌≤◌, List, [], ◌∷◌, ◌++◌, map, length, Option, Some, None}
use Rattle.std.specs.List.{AllByRecursion}
use Rattle.goods_set.specs.Bundles.{AreBelow, IsRising}
use Rattle.bid_file.specs.declared.bid.Bid.{Bid}
use Rattle.bid_file.specs.declared.limits.TheConstants.{MAX_GOODS, MAX_BIDS, MAX_DUMMY, MAX_PRICE}

-- a bid: its price, its real goods, and its dummy good, if any
pub record PlainBid : Type 0 where
  pub price : ℕ
  pub goods : List ℕ
  pub dummy : Option ℕ

-- a file: how many goods and dummy goods, and its bids by number
pub record PlainFile : Type 0 where
  pub goods : ℕ
  pub dummy : ℕ
  pub bids : List PlainBid

abbrev pub plain_bid : Bid → PlainBid
plain_bid b = record { price = b.price; goods = b.goods.items; dummy = b.dummy }

-- bids of the code as values
abbrev pub plain_bids : List Bid → List PlainBid
plain_bids bids = map plain_bid bids

-- the dummy good, if there is one, is below D
abbrev pub IsDummyBelow : ℕ → Option ℕ → Type 0
IsDummyBelow D None = Unit {0}
IsDummyBelow D (Some d) = d < D

-- a bid on real goods below G, at least one, and a dummy below D
pub record IsBid (G D : ℕ) (b : PlainBid) : Type 0 where
  pub price : b.price ≤ MAX_PRICE
  pub goods : 0 < length b.goods
  pub rising : IsRising b.goods
  pub below : AreBelow G b.goods
  pub dummy : IsDummyBelow D b.dummy

-- G goods, D dummy goods and these bids are a file within the limits; each bid's goods rise, one at least
pub record IsBidFile (G D : ℕ) (bids : List PlainBid) : Type 0 where
  pub goods : G ≤ MAX_GOODS
  pub dummy : D ≤ MAX_DUMMY
  pub count : length bids ≤ MAX_BIDS
  pub each : AllByRecursion (IsBid G D) bids

-- the file is as `IsBidFile` says
abbrev pub IsPlainFile : PlainFile → Type 0
IsPlainFile f = IsBidFile f.goods f.dummy f.bids

-- the number of a dummy good in a file of G goods
abbrev pub dummy_good : ℕ → Option ℕ → List ℕ
dummy_good G None = []
dummy_good G (Some d) = (G + d) ∷ []

-- a bid's goods as a file of G goods writes them: dummy good last, G higher
abbrev pub goods_of : ℕ → PlainBid → List ℕ
goods_of G b = b.goods ++ dummy_good G b.dummy
