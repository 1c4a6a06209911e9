-- `push_rest`: one more right bidder is added, alone.
use Rattle.analysis.proofs.Common.{arith, common_steps, take_more, map_push}
use Rattle.analysis.proofs.Comparing.Changes.{one_more_alone}
use Rattle.analysis.proofs.differences.bidder_changes.push_rest.Goals as goal

pub loop-index-preserved : goal.loop-index-preserved
loop-index-preserved g c = grind (arith, common_steps, take_more, map_push, one_more_alone)
