-- `diff_text`
use Rattle.commands.proofs.Common.{file_of}
use Rattle.commands.proofs.BidsOfFiles.{bidder_changes_of, or_changes_of}
use Rattle.commands.proofs.diff.diff_text.Goals as goal

pub push_changes-requires-clause-changes : goal.push_changes-requires-clause-changes
push_changes-requires-clause-changes c =
    rw c.deref.ensures.value (or_changes_of (file_of c.args.sides.now.left) (file_of c.args.sides.now.right) c.requires.sides.left.compared.plain
    c.requires.sides.right.compared.plain _ c.requires.all.bundles)

pub push_bidders-requires-clause-bidders : goal.push_bidders-requires-clause-bidders
push_bidders-requires-clause-bidders c =
    rw c.deref-2.ensures.value (bidder_changes_of (file_of c.args.sides.now.left) (file_of c.args.sides.now.right) c.requires.sides.left.compared.plain
    c.requires.sides.right.compared.plain _ c.requires.all.bidders)
