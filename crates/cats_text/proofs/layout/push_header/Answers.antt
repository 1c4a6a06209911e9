-- `push_header`
use Rattle.cats_text.proofs.Common.{common_steps, arith}
use Rattle.cats_text.proofs.layout.push_header.Goals as goal

pub returns-clause-text : goal.returns-clause-text
returns-clause-text c = grind (arith, common_steps)
