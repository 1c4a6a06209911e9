-- `number_of`: the index is that of the first bid that does not come before the bidder and the goods.
use Rattle.analysis.proofs.Common.{rules, is_lt, seen_bid, NumberedBid, IsPartitionPoint-from_clause}
use Rattle.analysis.specs.BidOrders.{key_cmp}
use Rattle.analysis.proofs.Explaining.BestBids.{partitioned, first_is_best, has_index}
use Rattle.analysis.proofs.reasons.best.number_of.Goals as goal

pub bounds-bids-index : goal.bounds-bids-index
bounds-bids-index c =
    let there = c.requires.there in
    let bids = c.args.bids.now in
    let target = seen_bid c.args.bid.now in
    let point = IsPartitionPoint-from_clause (λ (n : NumberedBid). is_lt (key_cmp (seen_bid n.bid) target)) bids c.partition_point-index.result
    c.partition_point-index.ensures.partitioned (partitioned there.file bids there.order target) (λ a r k h. search rules) in
    has_index there.file bids there.order target c.partition_point-index.result point there.number there.within there.is

pub returns : goal.returns
returns c = λ f order i within is.
    let bids = c.args.bids.now in
    let target = seen_bid c.args.bid.now in
    let point = IsPartitionPoint-from_clause (λ (n : NumberedBid). is_lt (key_cmp (seen_bid n.bid) target)) bids c.partition_point-index.result
    c.partition_point-index.ensures.partitioned (partitioned f bids order target) (λ a r k h. search rules) in
    first_is_best f bids order target c.partition_point-index.result point _ i within is
