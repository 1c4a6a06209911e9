-- Allocations, and the greatest revenue of a file. No two winners share a good, and no two share a dummy good: an XOR
-- bidder wins one bid at most, and the OR bidder any of its bids.
use Rattle.std.specs.Prelude.{◌≡◌, ℕ, Bool, true, false, ◌&&◌, not, max, List, [], ◌∷◌, length, map, sum_by, Option}
use Rattle.std.specs.Prelude.{Some, None}
use Rattle.std.specs.List.{filter, list_all}
use Rattle.goods_set.specs.Bundles.{IsBundle, all_bundles, are_apart}
use Rattle.bid_file.specs.Files.{PlainBid, PlainFile}
use Rattle.valuation.specs.Auctions.{is_dummy}
use Rattle.analysis.specs.Bids.{bid_at}

-- whether there is a dummy good, and the other is the same
abbrev pub share_dummy : Option ℕ → Option ℕ → Bool
share_dummy None other = false
share_dummy (Some d) other = is_dummy d other

-- whether two bids share no good and no dummy good
abbrev pub can_both_win : PlainBid → PlainBid → Bool
can_both_win a b = are_apart a.goods b.goods && not (share_dummy a.dummy b.dummy)

-- whether each two of the bids of these numbers can both win
abbrev pub can_all_win : PlainFile → List ℕ → Bool
can_all_win f [] = true
can_all_win f (i ∷ rest) = list_all (λ j. can_both_win (bid_at f i) (bid_at f j)) rest && can_all_win f rest

-- rising numbers of bids, each two of which can both win
pub record IsAllocation (f : PlainFile) (winners : List ℕ) : Type 0 where
  pub numbers : IsBundle (length f.bids) winners
  pub win : can_all_win f winners ≡ true

-- the sum of the winners' prices
abbrev pub revenue : PlainFile → List ℕ → ℕ
revenue f winners = sum_by (λ i. (bid_at f i).price) winners

-- all allocations of a file
abbrev pub allocations : PlainFile → List (List ℕ)
allocations f = filter (can_all_win f) (all_bundles (length f.bids))

abbrev pub greatest : List ℕ → ℕ
greatest [] = 0
greatest (n ∷ rest) = max n (greatest rest)

-- the greatest revenue of an allocation
abbrev pub greatest_revenue : PlainFile → ℕ
greatest_revenue f = greatest (map (revenue f) (allocations f))

-- an allocation of the greatest revenue
pub record AreWinners (f : PlainFile) (winners : List ℕ) : Type 0 where
  pub allocation : IsAllocation f winners
  pub greatest : revenue f winners ≡ greatest_revenue f
