-- `push_changes`
use Rattle.commands.proofs.Common.{plain_change, IsOfBids, file_of}
use Rattle.commands.proofs.BidsOfFiles.{seen_at}
use Rattle.commands.proofs.diff.push_changes.Goals as goal

pub push_change-requires-clause-change : goal.push_change-requires-clause-change
push_change-requires-clause-change c =
    seen_at (IsOfBids (file_of c.args.sides.now.left) (file_of c.args.sides.now.right) c.args.bidder.now.left c.args.bidder.now.right) plain_change
    c.args.changes.now c.loop-change.change-index _ c.loop-change-test.true c.requires.changes
