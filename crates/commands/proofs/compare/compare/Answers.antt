-- `compare`
use Rattle.commands.proofs.Pairing.{files_compared}
use Rattle.commands.proofs.compare.compare.Goals as goal

pub returns : goal.returns
returns g c =
    files_compared _ _ _ _ _ _ _ _ _ c.in_ok-left.left c.in_ok-right.right _ _ c.read_canonical.ensures.answer c.in_ok-left.ensures
    c.read_canonical-2.ensures.answer c.in_ok-right.ensures _ c.compared.ensures.made c.compared.ensures.memory _ c.of-3.ensures
