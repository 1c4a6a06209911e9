-- `dummies_of`
use Rattle.canon.proofs.Common.{◌≡◌, map, take}
use Rattle.canon.proofs.normal.auction.dummies_of.Given as goal

-- the numbers of the bidders so far
abbrev pub invariant-loop-bidder : goal.invariant-loop-bidder
invariant-loop-bidder g l = l.dummies.items ≡ map (λ b. b.dummy) (take l.bidder-index l.keyed)
