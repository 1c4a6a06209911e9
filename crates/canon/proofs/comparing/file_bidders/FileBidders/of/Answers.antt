-- `FileBidders::of`: the bids of the OR bidder are its points, and those of the XOR bidders are split.
use Rattle.canon.proofs.Common.{auction_from}
use Rattle.canon.proofs.Walks.BidderWalks.{bids_of_canonical}
use Rattle.canon.proofs.Walks.OrWalks.{offers_are}
use Rattle.canon.proofs.comparing.file_bidders.FileBidders.of.Goals as goal

pub returns : goal.returns
returns g c =
    let a = auction_from (g.B.Bids.file c.args.file.now) in
    let own = c.split_bids-or_bids.ensures in
    record {
      or = offers_are a c.split_bids-or_bids.result.0 own.or_bids;
      xor = c.in_ok-xor_bidders.ensures a.xor_bidders (bids_of_canonical a c.split_bids-or_bids.result.1 own.xor_bids);
    }
