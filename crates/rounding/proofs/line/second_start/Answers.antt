-- `second_start`
use Rattle.rounding.proofs.Common.{arith, common_steps}
use Rattle.rounding.proofs.Words.{second_count}
use Rattle.rounding.proofs.line.second_start.Goals as goal

pub returns-clause-count : goal.returns-clause-count
returns-clause-count c = grind (arith, common_steps, second_count)
