-- For each good, and behind these for each dummy good, the first of some bids that has it.
use Rattle.std.specs.Prelude.{◌≡◌, ℕ, ◌+◌, ◌<◌, min, Bool, Option, Some, None, List, length, set, fold, slice_index_or}
use Rattle.std.specs.List.{find}
use Rattle.goods_set.specs.Bundles.{IsRising, has_good}
use Rattle.bid_file.specs.Files.{PlainFile, goods_of}
use Rattle.analysis.specs.Bids.{bid_at}

abbrev pub holder_at : List (Option ℕ) → ℕ → Option ℕ
holder_at holders good = slice_index_or holders good None

-- the lesser of two numbers, of which any may not be there
abbrev pub lesser : Option ℕ → Option ℕ → Option ℕ
lesser None other = other
lesser (Some i) None = Some i
lesser (Some i) (Some j) = Some (min i j)

-- the least holder of these goods, or a lesser number
abbrev pub least_holder : List (Option ℕ) → Option ℕ → List ℕ → Option ℕ
least_holder holders least goods = fold (λ i good. lesser i (holder_at holders good)) least goods

-- with this bid as the holder of each of these goods
abbrev pub held_by : ℕ → List (Option ℕ) → List ℕ → List (Option ℕ)
held_by number holders goods = fold (λ held good. set held good (Some number)) holders goods

-- whether bid i has a good
abbrev pub has : PlainFile → ℕ → ℕ → Bool
has f good i = has_good (goods_of f.goods (bid_at f i)) good

-- each good is held by the first of the bids that has it
pub record AreHolders (f : PlainFile) (bids : List ℕ) (holders : List (Option ℕ)) : Type 0 where
  pub long : length holders ≡ f.goods + f.dummy
  pub each : (good : ℕ) → good < f.goods + f.dummy → holder_at holders good ≡ find (has f good) bids

-- a list of numbers, rising, with the members of another
pub record IsRisingOf (named rising : List ℕ) : Type 0 where
  pub rises : IsRising rising
  pub members : (i : ℕ) → has_good rising i ≡ has_good named i
