-- `bidders_left_are_equal`
use Rattle.analysis.proofs.Comparing.LeftBidders.{same_without_changes}
use Rattle.analysis.proofs.laws.bidders_left_are_equal.Goals as goal

pub returns : goal.returns
returns c left right changes bidder are = same_without_changes left right changes are bidder
