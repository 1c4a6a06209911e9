-- `place_pieces`
use Rattle.commands.proofs.Common.{rules, append_assoc}
use Rattle.commands.proofs.fault.place_pieces.Goals as goal

pub returns : goal.returns
returns c = simp append_assoc (search rules)
