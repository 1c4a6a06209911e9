-- `holders_of`
use Rattle.analysis.proofs.Common.{arith, common_steps}
use Rattle.analysis.proofs.Comparing.BidsOfBidders.{bids_are, bids_in_order}
use Rattle.analysis.proofs.Comparing.BidsOnBundles.{one_more_bidder}
use Rattle.analysis.proofs.differences.holders.holders_of.Goals as goal

pub loop-index-preserved : goal.loop-index-preserved
loop-index-preserved g c = grind (arith, common_steps, one_more_bidder, bids_are, bids_in_order)
