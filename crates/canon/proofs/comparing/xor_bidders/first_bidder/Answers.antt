-- `first_bidder`
use Rattle.canon.proofs.Common.{prefix_len-le-length, seen_bid}
use Rattle.canon.proofs.Walks.BidderWalks.{leading_bids}
use Rattle.canon.proofs.comparing.xor_bidders.first_bidder.Goals as goal

pub up_to-requires : goal.up_to-requires
up_to-requires g c = rw c.count_leading.ensures (prefix_len-le-length _ c.args.bids.now)

pub returns : goal.returns
returns g c = rw (c.up_to.ensures, c.count_leading.ensures) (leading_bids c.args.bids.now (seen_bid c.at.result) c.at.ensures)
