-- What `cats revenue` says of bids that are named as winners: their revenue if they are an allocation, and if not the
-- first two of them that cannot both win, in order of their numbers.
use Rattle.std.specs.Prelude.{◌≡◌, ◌⊎◌, ℕ, ◌<◌, ◌≤◌, nat_le, true, false, not, List, [], ◌∷◌, ◌++◌, length}
use Rattle.std.specs.Prelude.{Contains, Option, Some, None, Result, Ok, Err, codes, decimal}
use Rattle.std.specs.List.{filter, find}
use Rattle.std.specs.Option.{unwrap_or}
use Rattle.goods_set.specs.Bundles.{AreApart, has_good}
use Rattle.bid_file.specs.Files.{PlainBid, PlainFile}
use Rattle.cats_text.specs.Layout.{price_text}
use Rattle.analysis.specs.Bids.{bid_at, numbers_of}
use Rattle.analysis.specs.Allocations.{can_both_win, revenue}
use Rattle.analysis.specs.declared.winners.allocation_verdict.AllocationVerdict.{AllocationVerdict}
use Rattle.analysis.specs.declared.winners.allocation_verdict.AllocationVerdict.TheVariants.{Revenue, SharedGood}
use Rattle.analysis.specs.declared.winners.allocation_verdict.AllocationVerdict.TheVariants.{SharedBidder}

-- the first named number that the file does not have
abbrev pub missing_bid : PlainFile → List ℕ → Option ℕ
missing_bid f named = find (λ i. nat_le (length f.bids) i) named

-- the rising numbers of the named bids, each once
abbrev pub named_bids : PlainFile → List ℕ → List ℕ
named_bids f named = filter (has_good named) (numbers_of f)

-- the first of the others that cannot win beside bid i
abbrev pub first_rival : PlainFile → ℕ → List ℕ → Option ℕ
first_rival f i others = find (λ j. not (can_both_win (bid_at f i) (bid_at f j))) others

-- a bid with its rival, or if it has none, another pair
abbrev pub pair_or : ℕ → Option ℕ → Option (ℕ × ℕ) → Option (ℕ × ℕ)
pair_or i None other = other
pair_or i (Some j) other = Some (i, j)

-- the first two of these bids that cannot both win
abbrev pub first_clash : PlainFile → List ℕ → Option (ℕ × ℕ)
first_clash f [] = None
first_clash f (i ∷ later) = pair_or i (first_rival f i later) (first_clash f later)

-- the least good that two bids share
abbrev pub shared_good : PlainBid → PlainBid → Option ℕ
shared_good a b = find (has_good b.goods) a.goods

-- bids i and j share this good; if they share none, they have one dummy good
abbrev pub clash_on : PlainFile → ℕ → ℕ → Option ℕ → AllocationVerdict
clash_on f i j (Some good) = SharedGood i j good
clash_on f i j None = SharedBidder i j (unwrap_or (bid_at f i).dummy 0)

-- why bids i and j cannot both win
abbrev pub clash_of : PlainFile → ℕ → ℕ → AllocationVerdict
clash_of f i j = clash_on f i j (shared_good (bid_at f i) (bid_at f j))

-- the verdict on winners of whom these two cannot both win
abbrev pub verdict_by : PlainFile → List ℕ → Option (ℕ × ℕ) → AllocationVerdict
verdict_by f winners None = Revenue (revenue f winners)
verdict_by f winners (Some pair) = clash_of f pair.0 pair.1

abbrev pub verdict_unless : Option ℕ → AllocationVerdict → Result AllocationVerdict ℕ
verdict_unless None verdict = Ok verdict
verdict_unless (Some i) verdict = Err i

-- the named bids' revenue, or the first two that cannot both win; or the first missing number
abbrev pub allocation_verdict : PlainFile → List ℕ → Result AllocationVerdict ℕ
allocation_verdict f named =
    let winners = named_bids f named in
    verdict_unless (missing_bid f named) (verdict_by f winners (first_clash f winners))

-- ---- what a clash is

-- of the named bids, i and j are the first two that cannot both win
pub record IsFirstClash (f : PlainFile) (named : List ℕ) (i j : ℕ) : Type 0 where
  pub first : Contains named i
  pub second : Contains named j
  pub order : i < j
  pub clash : can_both_win (bid_at f i) (bid_at f j) ≡ false
  pub earlier : (k l : ℕ) → Contains named k → Contains named l → k < l → (k < i) ⊎ ((k ≡ i) × (l < j))
      → can_both_win (bid_at f k) (bid_at f l) ≡ true

-- the least good of both bundles
pub record IsLeastShared (a b : List ℕ) (good : ℕ) : Type 0 where
  pub first : has_good a good ≡ true
  pub second : has_good b good ≡ true
  pub least : (g : ℕ) → has_good a g ≡ true → has_good b g ≡ true → good ≤ g

-- two bids that share no good and have this dummy good
pub record AreOneBidders (a b : PlainBid) (dummy : ℕ) : Type 0 where
  pub apart : AreApart a.goods b.goods
  pub first : a.dummy ≡ Some dummy
  pub second : b.dummy ≡ Some dummy

-- ---- what is printed

-- that of these two bids
abbrev pub pair_text : ℕ → ℕ → List ℕ
pair_text i j = codes "bids " ++ decimal i ++ codes " and " ++ decimal j

-- the line of a verdict
abbrev pub allocation_text : AllocationVerdict → List ℕ
allocation_text (Revenue millionths) = codes "revenue " ++ price_text millionths ++ codes "\n"
allocation_text (SharedGood i j good) = pair_text i j ++ (codes " share good " ++ decimal good ++ codes "\n")
allocation_text (SharedBidder i j dummy) =
    pair_text i j ++ (codes " are of one XOR bidder (dummy good " ++ decimal dummy ++ codes ")\n")

-- 1 if two named bids cannot both win, else 0
abbrev pub allocation_status : AllocationVerdict → ℕ
allocation_status (Revenue millionths) = 0
allocation_status (SharedGood i j good) = 1
allocation_status (SharedBidder i j dummy) = 1
