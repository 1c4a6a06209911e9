-- `differences_text`
use Rattle.commands.proofs.ComparedFiles.{compared_canonical, compared_plain}
use Rattle.commands.proofs.diff.differences_text.Goals as goal

pub all_differences-requires : goal.all_differences-requires
all_differences-requires c = record {
  left_facts = compared_plain c.args.left.now c.requires.left;
  left_canonical = compared_canonical c.args.left.now c.requires.left;
  right_facts = compared_plain c.args.right.now c.requires.right;
  right_canonical = compared_canonical c.args.right.now c.requires.right;
}
