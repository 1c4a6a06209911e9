-- The facts of a file hold in one way at most, so that a struct may keep them.
use Rattle.std.specs.Prelude.{ℕ, List, Option, Some, None}
use Rattle.std.specs.List.{AllByRecursion-prop}
use Rattle.std.specs.Coded.{Unit-prop, le_prop}
use Rattle.goods_set.specs.Lemmas.BundleFacts.{AreBelow-prop, IsRising-prop}
use Rattle.bid_file.specs.Files.{PlainBid, IsDummyBelow, IsBid, IsBidFile}

-- these facts have one proof at most, as a fact that a struct keeps has to
pub IsDummyBelow-prop : (D : ℕ) (d : Option ℕ) → IsProp (IsDummyBelow D d)
IsDummyBelow-prop D None = Unit-prop
IsDummyBelow-prop D (Some d) = le_prop

pub IsBid-prop : (G D : ℕ) (b : PlainBid) → IsProp (IsBid G D b)
IsBid-prop G D b = hlevel (le_prop, IsRising-prop b.goods, AreBelow-prop G b.goods, IsDummyBelow-prop D b.dummy)

pub IsBidFile-prop : (G D : ℕ) (bids : List PlainBid) → IsProp (IsBidFile G D bids)
IsBidFile-prop G D bids = hlevel (le_prop, AllByRecursion-prop (IsBid G D) (IsBid-prop G D) bids)
