-- `push_variables`
use Rattle.analysis.proofs.Common.{binary_line}
use Rattle.analysis.proofs.Allocating.RowTexts.{line_behind}
use Rattle.analysis.proofs.winners.lp.push_variables.Goals as goal

pub loop-number-preserved : goal.loop-number-preserved
loop-number-preserved c = line_behind binary_line c.loop-number.number _ _ _ c.loop-number.invariant c.in_ok-push_numbered.ensures
