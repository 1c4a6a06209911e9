-- `KeyedBidder::order`
use Rattle.canon.proofs.Common.{rules, AreBelow-higher}
use Rattle.canon.proofs.CanonicalFiles.BidderKeys.{order_by_bidder_key, decided}
use Rattle.canon.proofs.normal.keyed_bidder.KeyedBidder.order.Goals as goal

pub returns-in_default : goal.returns-in_default
returns-in_default g c = search (rules, order_by_bidder_key, AreBelow-higher, decided)
