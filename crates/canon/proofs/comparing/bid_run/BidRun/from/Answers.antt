-- `BidRun::from`
use Rattle.canon.proofs.Common.{rules}
use Rattle.canon.proofs.Walks.BidRuns.{range_length, rest_of_range}
use Rattle.canon.proofs.comparing.bid_run.BidRun.from.Goals as goal

pub returns : goal.returns
returns g c = search (rules, range_length, rest_of_range)
