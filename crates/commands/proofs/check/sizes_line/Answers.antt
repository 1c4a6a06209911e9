-- `sizes_line`
use Rattle.commands.proofs.Common.{rules, append_assoc}
use Rattle.commands.proofs.check.sizes_line.Goals as goal

pub returns : goal.returns
returns c = simp append_assoc (search rules)
