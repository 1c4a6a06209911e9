-- `diff`
use Rattle.commands.proofs.Pairing.{files_differed}
use Rattle.commands.proofs.diff.diff.Goals as goal

pub returns : goal.returns
returns g c =
    files_differed _ _ _ _ _ _ _ _ _ c.in_ok-left.left c.in_ok-right.right c.in_ok-left.ensures.answer c.in_ok-right.ensures.answer _
    c.differences.ensures.made c.differences.ensures.memory _ c.of.ensures
