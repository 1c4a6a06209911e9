-- What the code finds out for each bid. It is its reason, and that the bids it names are in the canonical file. If
-- each bid has such a reason, the reasons explain the file.
use Rattle.std.specs.Prelude.{◌≡◌, ℕ, ◌≤◌, List, slice_get, Some, None, is_some, sum_by, true}
use Rattle.std.specs.List.{AllByRecursion}
use Rattle.goods_set.specs.Bundles.{IsInside, IsRising}
use Rattle.bid_file.specs.Files.{PlainFile}
use Rattle.prune.specs.SearchSteps.{is_below}
use Rattle.canon.specs.Renaming.{kept_bids}
use Rattle.analysis.specs.Bids.{bid_at}
use Rattle.analysis.specs.Reasons.{PlainReason, Keep, Zero, Same, Inside, Packing, IsBestBid, IsKeptAs, HasSame}
use Rattle.analysis.specs.Reasons.{all_apart, goods_at}

-- the bid is one of the canonical file
pub record IsPointBid (f : PlainFile) (j : ℕ) : Type 0 where
  pub k : ℕ
  pub is : IsKeptAs f j k

-- the bid is not in the canonical file
abbrev pub IsNoPoint : PlainFile → ℕ → Type 0
IsNoPoint f i = (k : ℕ) → slice_get (kept_bids f) k ≡ Some (bid_at f i) → ⊥

-- a bid of the canonical file, of the same XOR bidder, is on fewer goods, and its price is as high
pub record HasPointInside (f : PlainFile) (i j : ℕ) : Type 0 where
  pub bid : IsBestBid f i
  pub no_point : IsNoPoint f i
  pub xor : is_some (bid_at f i).dummy ≡ true
  pub bidder : (bid_at f j).dummy ≡ (bid_at f i).dummy
  pub point : IsPointBid f j
  pub below : is_below (bid_at f j).goods (bid_at f i).goods ≡ true
  pub enough : (bid_at f i).price ≤ (bid_at f j).price

-- a bid of the OR bidder that is in the canonical file and is inside these goods
pub record IsPointInside (f : PlainFile) (goods : List ℕ) (j : ℕ) : Type 0 where
  pub or : (bid_at f j).dummy ≡ None
  pub point : IsPointBid f j
  pub inside : IsInside (bid_at f j).goods goods

-- bids of the canonical file, of the OR bidder, share no good, are inside its goods, and their prices add up to as much
pub record HasPointPacking (f : PlainFile) (i : ℕ) (js : List ℕ) : Type 0 where
  pub bid : IsBestBid f i
  pub no_point : IsNoPoint f i
  pub or : (bid_at f i).dummy ≡ None
  pub rising : IsRising js
  pub each : AllByRecursion (IsPointInside f (bid_at f i).goods) js
  pub apart : all_apart (goods_at f js) ≡ true
  pub enough : (bid_at f i).price ≤ sum_by (λ j. (bid_at f j).price) js

-- the reason is that of bid i
abbrev pub IsDecided : PlainFile → ℕ → PlainReason → Type 0
IsDecided f i Zero = (bid_at f i).price ≡ 0
IsDecided f i (Same j) = HasSame f i j
IsDecided f i (Inside j) = HasPointInside f i j
IsDecided f i (Packing js) = HasPointPacking f i js
IsDecided f i (Keep k) = IsKeptAs f i k
