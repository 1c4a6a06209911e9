-- `starts_of`: the starts are found among the last bids.
use Rattle.analysis.proofs.Common.{◌-◌, AreStarts}
use Rattle.analysis.proofs.reasons.starts.starts_of.Given as goal

abbrev pub invariant-loop-behind : goal.invariant-loop-behind
invariant-loop-behind l = AreStarts l.file (l.count - l.behind) l.starts.items
