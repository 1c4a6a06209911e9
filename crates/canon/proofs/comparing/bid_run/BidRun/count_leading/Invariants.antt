-- `BidRun::count_leading`
use Rattle.canon.proofs.Common.{◌≡◌, ◌+◌, ◌-◌, ◌≤◌, length, drop, leading}
use Rattle.canon.proofs.comparing.bid_run.BidRun.count_leading.Given as goal

-- the bids so far have the dummy good
abbrev pub invariant-loop-count : goal.invariant-loop-count
invariant-loop-count g l = record {
  within : l.count ≤ length l.self;
  so_far : l.count + leading l.dummy (drop l.count l.self) ≡ leading l.dummy l.self;
}

abbrev pub decreases-loop-count : goal.decreases-loop-count
decreases-loop-count g l = length l.self - l.count
