-- `cut_value`
use Rattle.rounding.proofs.Common.{rules}
use Rattle.rounding.proofs.Worth.{cut_none, cut_two}
use Rattle.rounding.proofs.value.cut_value.Goals as goal

pub returns-then-power-size : goal.returns-then-power-size
returns-then-power-size c = search (rules, cut_none)

pub returns : goal.returns
returns c = search (rules, cut_two)
