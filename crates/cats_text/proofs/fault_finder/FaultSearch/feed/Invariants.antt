-- `FaultSearch::feed`
use Rattle.cats_text.proofs.Common.{◌≡◌, ◌≤◌, ◌++◌, length}
use Rattle.cats_text.specs.Internal.Finding.{IsSeeking, bytes_of}
use Rattle.cats_text.proofs.fault_finder.FaultSearch.feed.Given as goal

abbrev pub invariant-loop-end : goal.invariant-loop-end
invariant-loop-end l = record {
  seeking : IsSeeking l.self;
  came : bytes_of l.self ++ l.rest ≡ bytes_of l.fn.self ++ l.piece;
  within : length l.rest ≤ length l.piece;
}

abbrev pub decreases-loop-end : goal.decreases-loop-end
decreases-loop-end l = length l.rest
