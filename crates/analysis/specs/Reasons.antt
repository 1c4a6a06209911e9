-- Why each bid of a file is kept or dropped.
use Rattle.std.specs.Prelude.{◌≡◌, ℕ, ◌<◌, ◌≤◌, ◌==◌, Bool, true, false, ◌&&◌, List, [], ◌∷◌, length, slice_get}
use Rattle.std.specs.Prelude.{if◌then◌else◌, map, slice_index_or, Option, Some, None, is_some, sum_by, count_by}
use Rattle.std.specs.List.{AllByRecursion, find, list_all, range_with_len}
use Rattle.std.specs.Option.{unwrap_or}
use Rattle.std.specs.Ordering.{nat_cmp}
use Rattle.goods_set.specs.Bundles.{IsInside, IsRising, are_apart}
use Rattle.bid_file.specs.Files.{PlainBid, PlainFile}
use Rattle.valuation.specs.declared.atom.Atom.{Atom}
use Rattle.valuation.specs.declared.search.kind.SearchKind.TheVariants.{Bounded}
use Rattle.valuation.specs.Auctions.{atom_of, or_atoms_of}
use Rattle.valuation.specs.Packings.{atom_at}
use Rattle.valuation.specs.Sorting.{sort_by}
use Rattle.prune.specs.Fates.{or_fate, xor_fate}
use Rattle.prune.specs.Points.{or_points}
use Rattle.prune.specs.SearchSteps.{is_below}
use Rattle.analysis.specs.Bids.{bid_at, numbers_of, are_alike, best_number, is_best, IsBestFor}
use Rattle.canon.specs.Renaming.{kept_bids, points_of_dummy}
use Rattle.analysis.specs.declared.reasons.reason.Reason.{Reason}
use Rattle.analysis.specs.declared.reasons.reason.Reason.TheVariants as R

-- why a bid is kept or dropped
pub data PlainReason : Type 0 where
  -- it is this bid of the canonical file
  Keep : ℕ → PlainReason
  -- its price is 0
  Zero : PlainReason
  -- this bid of the same bidder, on the same goods, is the best
  Same : ℕ → PlainReason
  -- this bid of the same XOR bidder is kept, on fewer goods, and its price is as high
  Inside : ℕ → PlainReason
  -- these bids of the OR bidder are kept, share no good, are inside its goods, and their prices add up to as much
  Packing : List ℕ → PlainReason

-- a reason of the code as a value
abbrev pub plain_reason : Reason → PlainReason
plain_reason (R.Keep k) = Keep k
plain_reason R.Zero = Zero
plain_reason (R.Same j) = Same j
plain_reason (R.Inside j) = Inside j
plain_reason (R.Packing js) = Packing js.items

abbrev pub is_kept : PlainReason → Bool
is_kept (Keep k) = true
is_kept reason = false

-- whether the bid is bid k of the canonical file
abbrev pub is_kept_as : ℕ → PlainReason → Bool
is_kept_as k (Keep l) = k == l
is_kept_as k reason = false

-- a bid of the canonical file, with its dummy good in the file
abbrev pub kept_bid : PlainFile → ℕ → PlainBid
kept_bid f k = slice_index_or (kept_bids f) k (record { price = 0; goods = []; dummy = None })

-- the reason of a bid
abbrev pub reason_at : List PlainReason → ℕ → PlainReason
reason_at reasons i = slice_index_or reasons i Zero

-- ---- what each reason says of bid i

-- the bid offers something, and is the best of its bidder's on its goods
pub record IsBestBid (f : PlainFile) (i : ℕ) : Type 0 where
  pub positive : 0 < (bid_at f i).price
  pub best : is_best f i ≡ true

-- `Keep`: bid i is bid k of the canonical file, but for its dummy good
pub record IsKeptAs (f : PlainFile) (i k : ℕ) : Type 0 where
  pub bid : IsBestBid f i
  pub is : slice_get (kept_bids f) k ≡ Some (bid_at f i)

-- `Same`: bid j is the best of bid i's bidder on its goods
pub record HasSame (f : PlainFile) (i j : ℕ) : Type 0 where
  pub positive : 0 < (bid_at f i).price
  pub another : (j == i) ≡ false
  pub best : IsBestFor f i j

-- `Inside`: kept bid j of the same XOR bidder has fewer goods and at least the price
pub record HasInside (f : PlainFile) (reasons : List PlainReason) (i j : ℕ) : Type 0 where
  pub bid : IsBestBid f i
  pub xor : is_some (bid_at f i).dummy ≡ true
  pub bidder : (bid_at f j).dummy ≡ (bid_at f i).dummy
  pub kept : is_kept (reason_at reasons j) ≡ true
  pub below : is_below (bid_at f j).goods (bid_at f i).goods ≡ true
  pub enough : (bid_at f i).price ≤ (bid_at f j).price

-- a bid of the OR bidder that is kept and is inside these goods
pub record IsKeptInside (f : PlainFile) (reasons : List PlainReason) (goods : List ℕ) (j : ℕ) : Type 0 where
  pub or : (bid_at f j).dummy ≡ None
  pub kept : is_kept (reason_at reasons j) ≡ true
  pub inside : IsInside (bid_at f j).goods goods

-- no two of these bundles share a good
abbrev pub all_apart : List (List ℕ) → Bool
all_apart [] = true
all_apart (goods ∷ rest) = list_all (are_apart goods) rest && all_apart rest

abbrev pub goods_at : PlainFile → List ℕ → List (List ℕ)
goods_at f [] = []
goods_at f (i ∷ rest) = (bid_at f i).goods ∷ goods_at f rest

-- `Packing`: kept OR bids, disjoint and inside bid i's goods, reach its price together
pub record HasPacking (f : PlainFile) (reasons : List PlainReason) (i : ℕ) (js : List ℕ) : Type 0 where
  pub bid : IsBestBid f i
  pub or : (bid_at f i).dummy ≡ None
  pub rising : IsRising js
  pub each : AllByRecursion (IsKeptInside f reasons (bid_at f i).goods) js
  pub apart : all_apart (goods_at f js) ≡ true
  pub enough : (bid_at f i).price ≤ sum_by (λ j. (bid_at f j).price) js

-- the reason is true of bid i
abbrev pub IsReason : PlainFile → List PlainReason → ℕ → PlainReason → Type 0
IsReason f reasons i Zero = (bid_at f i).price ≡ 0
IsReason f reasons i (Same j) = HasSame f i j
IsReason f reasons i (Inside j) = HasInside f reasons i j
IsReason f reasons i (Packing js) = HasPacking f reasons i js
IsReason f reasons i (Keep k) = IsKeptAs f i k

-- ---- the reason of each bid

-- the points of a bidder: what it offers in the canonical file
abbrev pub points_of : PlainFile → Option ℕ → List (Atom (List ℕ))
points_of f None = or_points f.goods (or_atoms_of f.bids)
points_of f (Some d) = points_of_dummy f d

-- the number of the best bid on the bundle of the point at an index
abbrev pub point_number : PlainFile → Option ℕ → ℕ → ℕ
point_number f dummy index = unwrap_or (best_number f dummy (atom_at (points_of f dummy) index).bundle) 0

-- which bid of the canonical file is of bid i's bidder on its goods
abbrev pub kept_number : PlainFile → ℕ → ℕ
kept_number f i =
    unwrap_or (find (λ k. are_alike (kept_bid f k) (bid_at f i)) (range_with_len 0 (length (kept_bids f)))) 0

-- the reason of a best bid, by what becomes of it. A packing is the one that the bounded search finds among the points
abbrev pub or_reason : PlainFile → ℕ → Option (List ℕ) → PlainReason
or_reason f i None = Keep (kept_number f i)
or_reason f i (Some indices) = Packing (sort_by nat_cmp (map (point_number f None) indices))

abbrev pub xor_reason : PlainFile → ℕ → ℕ → Option ℕ → PlainReason
xor_reason f d i None = Keep (kept_number f i)
xor_reason f d i (Some index) = Inside (point_number f (Some d) index)

abbrev pub best_reason : PlainFile → ℕ → Option ℕ → PlainReason
best_reason f i None = or_reason f i (or_fate Bounded (points_of f None) (atom_of (bid_at f i)))
best_reason f i (Some d) = xor_reason f d i (xor_fate (points_of f (Some d)) (atom_of (bid_at f i)))

-- the number of the best bid of bid i's bidder on its goods
abbrev pub best_alike : PlainFile → ℕ → ℕ
best_alike f i = unwrap_or (best_number f (bid_at f i).dummy (bid_at f i).goods) i

-- why bid i is kept or dropped
unfoldable pub reason_of : PlainFile → ℕ → PlainReason
reason_of f i =
    if (bid_at f i).price == 0 then Zero
    else (if best_alike f i == i then best_reason f i (bid_at f i).dummy else Same (best_alike f i))

-- why each bid is kept or dropped, in order of number
abbrev pub reasons_of : PlainFile → List PlainReason
reasons_of f = map (reason_of f) (numbers_of f)

-- ---- true reasons

-- each bid has one reason, a true one; each canonical bid is one bid of the file
pub record Explains (f : PlainFile) (reasons : List PlainReason) : Type 0 where
  pub long : length reasons ≡ length f.bids
  pub each : AllByRecursion (λ i. IsReason f reasons i (reason_at reasons i)) (numbers_of f)
  pub once : AllByRecursion (λ k. count_by (is_kept_as k) reasons ≡ 1) (range_with_len 0 (length (kept_bids f)))
