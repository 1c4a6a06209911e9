-- `push_bidders`
use Rattle.commands.proofs.Common.{plain_bidder_change, IsOfBidders, file_of}
use Rattle.commands.proofs.BidsOfFiles.{seen_at}
use Rattle.commands.proofs.diff.push_bidders.Goals as goal

pub push_bidder-requires-clause-bidder : goal.push_bidder-requires-clause-bidder
push_bidder-requires-clause-bidder c =
    let is = IsOfBidders (file_of c.args.sides.now.left) (file_of c.args.sides.now.right) in
    rw c.bidder-item.is
    (seen_at is plain_bidder_change c.args.bidders.now c.loop-bidder.bidder-index c.bidder-item.result c.loop-bidder-test.true c.requires.bidders)
