-- The goods of all bids in one list.
use Rattle.std.specs.Prelude.{ℕ, ◌≤◌, List}
use Rattle.std.specs.List.{AllByRecursion}
use Rattle.bid_file.specs.declared.packed.BidSpan.{BidSpan}

-- the goods of a span are among the first n
pub record IsHeld (n : ℕ) (o : BidSpan) : Type 0 where
  pub order : o.start ≤ o.end
  pub within : o.end ≤ n

abbrev pub AreHeld : ℕ → List BidSpan → Type 0
AreHeld n spans = AllByRecursion (IsHeld n) spans
