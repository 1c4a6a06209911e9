-- `least_holder`
use Rattle.analysis.proofs.Common.{◌≡◌, take, None, least_holder}
use Rattle.analysis.proofs.winners.clashes.least_holder.Given as goal

-- the least number at the goods so far
abbrev pub invariant-loop-good : goal.invariant-loop-good
invariant-loop-good l = l.least ≡ least_holder l.holders None (take l.good-index l.bid.goods.now)
