-- `Side::bid_number`
use Rattle.commands.proofs.Common.{file_of}
use Rattle.commands.proofs.BidNumbers.{number_at_price}
use Rattle.commands.proofs.diff.sides.Side.bid_number.Goals as goal

pub returns : goal.returns
returns c =
    number_at_price (file_of c.args.self.now) c.args.self.now.bids.items c.requires.side.order c.args.dummy c.args.goods.now c.args.price
    c.in_ok-price.price c.in_ok-price.was c.requires.bid c.number_of.result
    (λ g order i l e. c.number_of.ensures g (rw c.deref.ensures.value order) i l e)
