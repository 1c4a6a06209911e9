-- `named_bids`
use Rattle.canon.proofs.Common.{seen_bid}
use Rattle.canon.proofs.Walks.BidOrders.{one_more_named}
use Rattle.canon.proofs.comparing.xor_bidders.named_bids.Goals as goal

pub loop-i-preserved : goal.loop-i-preserved
loop-i-preserved g c =
    one_more_named c.args.bids.now c.loop-i.named.items c.push.new.self.items c.loop-i.i (seen_bid c.at-bid.result) c.in_ok-from_slice.field-0
    c.at-bid.ensures c.in_ok-push.ensures.items c.in_ok-from_slice.ensures.items c.loop-i.invariant
