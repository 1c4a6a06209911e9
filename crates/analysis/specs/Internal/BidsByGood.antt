-- The numbers of the bids that have a good, in a list for each good, and behind these for each dummy good.
use Rattle.std.specs.Prelude.{◌≡◌, ℕ, ◌+◌, ◌<◌, List, [], ◌∷◌, ◌++◌, length, map, set, fold, slice_index_or, Vec}
use Rattle.std.specs.Global.{Global}
use Rattle.std.specs.List.{filter, range_with_len}
use Rattle.goods_set.specs.Bundles.{has_good}
use Rattle.bid_file.specs.Files.{PlainFile, goods_of}
use Rattle.analysis.specs.Bids.{bid_at}

abbrev pub lists_of : List (Vec ℕ Global) → List (List ℕ)
lists_of vectors = map (λ v. v.items) vectors

abbrev pub list_at : List (List ℕ) → ℕ → List ℕ
list_at lists good = slice_index_or lists good []

-- with a bid's number behind those of one good
abbrev pub with_number : ℕ → List (List ℕ) → ℕ → List (List ℕ)
with_number number lists good = set lists good (list_at lists good ++ number ∷ [])

-- with its number behind those of each of its goods
abbrev pub with_bid : ℕ → List (List ℕ) → List ℕ → List (List ℕ)
with_bid number lists goods = fold (with_number number) lists goods

-- the lists are those of the first bids
pub record AreByGood (f : PlainFile) (count : ℕ) (lists : List (List ℕ)) : Type 0 where
  pub long : length lists ≡ f.goods + f.dummy
  pub each : (good : ℕ) → good < f.goods + f.dummy
      → list_at lists good ≡ filter (λ i. has_good (goods_of f.goods (bid_at f i)) good) (range_with_len 0 count)
