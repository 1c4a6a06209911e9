-- `PriceWalkIterator::next`
use Rattle.canon.proofs.Common.{◌≡◌, ◌+◌, length, offers, changes_of}
use Rattle.canon.proofs.comparing.price_walk.PriceWalkIterator.next.Given as goal

-- no change is passed
abbrev pub invariant-loop-bundle : goal.invariant-loop-bundle
invariant-loop-bundle g l = changes_of (offers l.self.left) (offers l.self.right) ≡ changes_of (offers l.fn.self.left) (offers l.fn.self.right)

abbrev pub decreases-loop-bundle : goal.decreases-loop-bundle
decreases-loop-bundle g l = length l.self.left + length l.self.right
