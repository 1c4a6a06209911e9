-- `fault_pieces`
use Rattle.commands.proofs.Common.{◌≡◌, ◌++◌, ℕ, List, [], append_assoc, codes, decimal}
use Rattle.commands.proofs.printed.report.fault_pieces.Goals as goal

joined : (before number : List ℕ) → before ++ number ++ codes " out of range" ++ [] ++ codes "\n" ≡ before ++ number ++ codes " out of range\n"
joined before number = simp append_assoc

pub returns-in-BidRange : goal.returns-in-BidRange
returns-in-BidRange c = rw (c.in-BidRange.is, c.line_pieces-in-BidRange.ensures, c.from-in-BidRange.ensures) (joined (codes "bid ") (decimal c.in-BidRange.bid))

pub returns-in-GoodRange : goal.returns-in-GoodRange
returns-in-GoodRange c = rw (c.in-GoodRange.is, c.line_pieces.ensures, c.from.ensures) (joined (codes "good ") (decimal c.in-GoodRange.good))
