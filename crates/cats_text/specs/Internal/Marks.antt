-- The marks of a bid's goods so far.
use Rattle.std.specs.Prelude.{◌≡◌, ℕ, ◌<◌, ◌≤◌, ◌==◌, Bool, true, false, if◌then◌else◌, List, [], slice_index}
use Rattle.goods_set.specs.Bundles.{IsRising, has_good}
use Rattle.cats_text.specs.Grammar.{AreDistinct}

-- those marked as this bid's are the goods, none of which is twice, and no mark is of a later bid
pub record IsMarked (goods marks : List ℕ) (bid_mark : ℕ) : Type 0 where
  pub begun : 0 < bid_mark
  pub marked : (g : ℕ) → (slice_index marks g == bid_mark) ≡ has_good goods g
  pub older : (g : ℕ) → slice_index marks g ≤ bid_mark
  pub distinct : AreDistinct goods

-- goods that rise so far are not marked, others are; the next good is above those that rise from the least such on
pub record IsListed (goods marks : List ℕ) (bid_mark : ℕ) (rises : Bool) (least : ℕ) : Type 0 where
  pub marked : IsMarked (if rises then [] else goods) marks bid_mark
  pub rising : rises ≡ true → IsRising goods
  pub above : rises ≡ true → (g : ℕ) → has_good goods g ≡ true → g < least
  pub none : rises ≡ false → 65536 ≤ least
