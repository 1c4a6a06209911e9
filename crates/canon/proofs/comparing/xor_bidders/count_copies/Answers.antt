-- `count_copies`: the copies so far, with those among the bidders of the bids still to come, are all (IsCounted): the next bidder is one copy more,
-- or none.
use Rattle.canon.proofs.Common.{rules, length-drop}
use Rattle.canon.proofs.Walks.BidderWalks.{one_more_counted, all_counted}
use Rattle.canon.proofs.comparing.xor_bidders.count_copies.Goals as goal
use Rattle.canon.proofs.comparing.xor_bidders.count_copies.Goals.{then-is_eq, else-is_eq}

pub loop-first-preserved : goal.loop-first-preserved
loop-first-preserved g c = search (rules, length-drop, then-is_eq, else-is_eq, one_more_counted)

pub returns : goal.returns
returns g c = search (rules, all_counted)
