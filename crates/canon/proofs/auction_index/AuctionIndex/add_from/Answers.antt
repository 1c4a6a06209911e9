-- `AuctionIndex::add_from`
use Rattle.canon.proofs.Common.{rules}
use Rattle.canon.proofs.TwoFiles.Indexing.{stream_added, stream_unread}
use Rattle.canon.proofs.auction_index.AuctionIndex.add_from.Goals as goal

pub returns-in_err-file : goal.returns-in_err-file
returns-in_err-file g c = search (rules, stream_unread)

pub returns : goal.returns
returns g c =
    let read = c.in_ok-file.ensures in
    search (rules, stream_added)
