-- `KeyedBidder::new`
use Rattle.canon.proofs.Common.{rules}
use Rattle.canon.proofs.CanonicalFiles.BidderKeys.{key_of_first, key_of_none}
use Rattle.canon.proofs.normal.keyed_bidder.KeyedBidder.new.Goals.{in-Some, in-None}
use Rattle.canon.proofs.normal.keyed_bidder.KeyedBidder.new.Goals as goal

pub invariant_of-result : goal.invariant_of-result
invariant_of-result g c = search (rules, in-Some, key_of_first, in-None, key_of_none)
