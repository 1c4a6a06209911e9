-- `hold`
use Rattle.analysis.proofs.Common.{◌≡◌, take, held_by}
use Rattle.analysis.proofs.winners.clashes.hold.Given as goal

-- the number is at the goods so far
abbrev pub invariant-loop-good : goal.invariant-loop-good
invariant-loop-good l = l.holders ≡ held_by l.number l.initial.holders (take l.good-index l.bid.goods.now)
