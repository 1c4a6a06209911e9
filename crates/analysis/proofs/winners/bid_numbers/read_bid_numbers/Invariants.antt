-- `read_bid_numbers`
use Rattle.analysis.proofs.Common.{length}
use Rattle.analysis.proofs.Allocating.NumberLines.{IsRead}
use Rattle.analysis.proofs.winners.bid_numbers.read_bid_numbers.Given as goal

abbrev pub invariant-loop-line : goal.invariant-loop-line
invariant-loop-line l = IsRead l.text l.rest l.ends l.numbers.items

abbrev pub decreases-loop-line : goal.decreases-loop-line
decreases-loop-line l = length l.rest
