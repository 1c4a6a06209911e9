-- `split_bidders`: the next bidder is split as well; where no bid is left, all bidders are.
use Rattle.canon.proofs.Common.{rules}
use Rattle.canon.proofs.Walks.SplitBidders.{one_more_split, all_split}
use Rattle.canon.proofs.comparing.file_bidders.split_bidders.Goals as goal

pub loop-first-preserved : goal.loop-first-preserved
loop-first-preserved g c = search (rules, one_more_split)

pub returns : goal.returns
returns g c = λ bidders h. all_split bidders c.loop-first.split.items c.loop-first.rest c.in_default.ensures (c.loop-first.invariant bidders h)
