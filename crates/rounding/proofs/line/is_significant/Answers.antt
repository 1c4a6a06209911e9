-- `is_significant`
use Rattle.rounding.proofs.Common.{le-ltb, arith, common_steps}
use Rattle.rounding.proofs.Words.{significant_at, significant_none}
use Rattle.rounding.proofs.line.is_significant.Goals as goal

pub returns-then-start-line : goal.returns-then-start-line
returns-then-start-line c = significant_at c.args.line.now c.count_blanks-start.result c.count_blanks-start.ensures.count c.if-start-line.true

pub returns-else-start-line : goal.returns-else-start-line
returns-else-start-line c = grind (arith, common_steps, le-ltb, significant_none)
