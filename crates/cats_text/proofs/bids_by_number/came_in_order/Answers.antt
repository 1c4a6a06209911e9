-- `came_in_order`
use Rattle.cats_text.proofs.Common.{rules, take_all}
use Rattle.cats_text.proofs.Parsing.BidsByNumber.{next_arrival}
use Rattle.cats_text.proofs.bids_by_number.came_in_order.Goals as goal

pub loop-number-preserved : goal.loop-number-preserved
loop-number-preserved c = search (rules, next_arrival)

pub returns : goal.returns
returns c = search (rules, take_all)
