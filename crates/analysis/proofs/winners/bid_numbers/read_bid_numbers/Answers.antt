-- `read_bid_numbers`
use Rattle.analysis.proofs.Common.{rules}
use Rattle.analysis.proofs.Allocating.NumberLines.{came_through, one_more, refused}
use Rattle.analysis.proofs.winners.bid_numbers.read_bid_numbers.Goals as goal

pub returns-in_err-push_numbers-clause-fault : goal.returns-in_err-push_numbers-clause-fault
returns-in_err-push_numbers-clause-fault c =
    search (rules, came_through, refused, c.from_residual.ensures, c.loop-line.invariant, c.in-Some.ensures.some, c.in_err-push_numbers.ensures.fault)

pub loop-line-preserved : goal.loop-line-preserved
loop-line-preserved c =
    one_more _ _ _ _ c.loop-line.invariant _ _ _ c.in-Some.ensures.some c.in-Some.ensures.length c.in_ok-push_numbers.ensures.faultless
    c.in_ok-push_numbers.ensures.numbers
