-- `BidRun::at`
use Rattle.canon.proofs.Common.{rules}
use Rattle.canon.proofs.Walks.BidRuns.{get_in_range, range_length}
use Rattle.canon.proofs.comparing.bid_run.BidRun.at.Goals as goal

pub returns : goal.returns
returns g c = search (rules, range_length, get_in_range)
