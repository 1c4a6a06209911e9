-- `bids`
use Rattle.commands.proofs.Common.{◌≡◌, ◌++◌, codes, take, printed_atoms, bidder_text}
use Rattle.commands.proofs.compare.bids.Given as goal

-- the bids so far are printed
abbrev pub invariant-loop-goods : goal.invariant-loop-goods
invariant-loop-goods l = l.text.items ≡ codes "xor" ++ bidder_text (printed_atoms (take l.goods-index l.bidder))
