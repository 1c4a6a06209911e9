-- `Partners::rest`
use Rattle.analysis.proofs.Common.{◌≡◌, take, filter, waits_at}
use Rattle.analysis.proofs.differences.partners.Partners.rest.Given as goal

-- those so far that wait
abbrev pub invariant-loop-index : goal.invariant-loop-index
invariant-loop-index l = l.rest.items ≡ filter (waits_at l.self.waits.items) (take l.index-index l.self.excess.items)
