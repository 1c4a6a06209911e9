-- What is kept of the bids so far. It does not depend on where it is in memory.
use Rattle.std.specs.Prelude.{◌≡◌, ℕ, zero, suc, ◌+◌, ◌-◌, ◌≤◌, List, [], ◌∷◌, ◌++◌, length, replicate, map, slice_get}
use Rattle.std.specs.Prelude.{Bool, true, false, Option, Some, None}
use Rattle.std.specs.List.{AllByRecursion}
use Rattle.bid_file.specs.Files.{PlainBid}

abbrev pub is_some_bid : Option (Option PlainBid) → Bool
is_some_bid (Some (Some b)) = true
is_some_bid _ = false

-- the bid that came when so many had come with it
abbrev pub slot_at : List PlainBid → ℕ → Option PlainBid
slot_at came zero = None
slot_at came (suc i) = slice_get came i

-- the bids with these arrivals, each by its number
abbrev pub arrived : List PlainBid → List ℕ → List (Option PlainBid)
arrived came arrivals = map (slot_at came) arrivals

abbrev pub AreWithin : ℕ → List ℕ → Type 0
AreWithin n arrivals = AllByRecursion (λ p. p ≤ n) arrivals

-- the arrivals that were there, and zeros behind them: at most as many as the number n needs
pub record IsPadded (old padded : List ℕ) (n : ℕ) : Type 0 where
  pub count : ℕ
  pub is : padded ≡ old ++ replicate count 0
  pub few : count ≤ n + 1 - length old

-- the arrivals of so many bids that came in the order of their numbers
abbrev pub arrivals_to : ℕ → List ℕ
arrivals_to zero = []
arrivals_to (suc k) = arrivals_to k ++ suc k ∷ []
