-- `all_reasons`: the first bids in order have their reasons.
use Rattle.analysis.proofs.Common.{◌≡◌, length, IsAt}
use Rattle.analysis.proofs.Explaining.Reasoned.{HaveReasons}
use Rattle.analysis.proofs.reasons.walk.all_reasons.Given as goal

abbrev pub invariant-loop-index : goal.invariant-loop-index
invariant-loop-index l = record {
  long : length l.reasons.items ≡ length l.known.file.now.bids;
  each : HaveReasons l.known.file.now l.known.bids.items l.reasons.items l.index;
  at : IsAt l.known.file.now l.known.bids.items l.index l.walk;
}
