-- What a command makes of its files. It is a text with a status, or why there is none.
use Rattle.std.specs.Prelude.{ℕ, List}
use Rattle.commands.specs.declared.faults.Limit.{Limit}

pub data Outcome : Type 0 where
  -- this status, and this text on the output
  Prints : ℕ → List ℕ → Outcome
  -- the file does not have this good
  LacksGood : ℕ → Outcome
  -- the file does not have this bid
  LacksBid : ℕ → Outcome
  -- a search on the bundle of these goods takes more steps than its limits leave
  ExceedsSteps : List ℕ → Outcome
  -- the same, by a command that names the bid: the limit that is met, the number of the first bid of the OR bidder on
  -- the bundle, and its goods
  ExceedsAtBid : Limit → ℕ → List ℕ → Outcome
