-- `named_bids`
use Rattle.canon.proofs.Common.{◌≡◌, take, offers, printed_atoms}
use Rattle.canon.proofs.comparing.xor_bidders.named_bids.Given as goal

-- the bids so far are named
abbrev pub invariant-loop-i : goal.invariant-loop-i
invariant-loop-i g l = printed_atoms l.named.items ≡ offers (take l.i l.bids)
