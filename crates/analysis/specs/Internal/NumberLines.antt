-- Why a line of numbers is refused.
use Rattle.std.specs.Prelude.{◌≡◌, ℕ, true, false, List}
use Rattle.std.specs.List.{list_all}
use Rattle.analysis.specs.BidNumbers.{begins_with_number, is_bid_number, words_in}
use Rattle.analysis.specs.declared.winners.bid_numbers.BidNumbersFault.{BidNumbersFault}
use Rattle.analysis.specs.declared.winners.bid_numbers.BidNumbersFault.TheVariants.{NotANumber, Memory}

-- the line with this number
abbrev pub RefusesLine : List ℕ → ℕ → BidNumbersFault → Type 0
RefusesLine line number (NotANumber named) = (named ≡ number) × (list_all is_bid_number (words_in line) ≡ false)
RefusesLine line number Memory = begins_with_number (words_in line) ≡ true
