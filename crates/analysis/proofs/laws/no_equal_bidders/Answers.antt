-- `no_equal_bidders`
use Rattle.analysis.proofs.Comparing.LeftBidders.{none_on_both}
use Rattle.analysis.proofs.laws.no_equal_bidders.Goals as goal

pub returns : goal.returns
returns c = none_on_both
