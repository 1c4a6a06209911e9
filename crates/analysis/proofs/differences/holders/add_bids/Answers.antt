-- `add_bids`
use Rattle.analysis.proofs.Common.{◌∙◌, seen_bid}
use Rattle.analysis.proofs.Comparing.BidsOnBundles.{one_more_bid}
use Rattle.analysis.proofs.differences.holders.add_bids.Goals as goal

pub loop-i-preserved : goal.loop-i-preserved
loop-i-preserved g c = record {
  indices = λ bundle. one_more_bid c.args.index _ c.loop-i.i (seen_bid c.at.result) c.at.ensures bundle _ _ _ (c.loop-i.invariant.indices bundle)
      (c.in_ok-add.ensures.indices bundle);
  passed = λ bundle. c.in_ok-add.ensures.passed bundle ∙ c.loop-i.invariant.passed bundle;
}
