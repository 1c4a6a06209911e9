-- `skip_greater`
use Rattle.analysis.proofs.Common.{rules, le_or_lt}
use Rattle.analysis.proofs.Comparing.ExcessBidders.{bidder_at_index}
use Rattle.analysis.proofs.differences.excess.skip_greater.Goals as goal

pub loop-end-preserved : goal.loop-end-preserved
loop-end-preserved g c = search (rules, bidder_at_index, le_or_lt)
