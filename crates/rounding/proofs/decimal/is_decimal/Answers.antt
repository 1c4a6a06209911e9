-- `is_decimal`
use Rattle.rounding.proofs.Common.{arith, common_steps}
use Rattle.rounding.proofs.Words.{digits_known, decimal_without, decimal_with}
use Rattle.rounding.proofs.decimal.is_decimal.Goals as goal

pub returns-then-mark_in-word : goal.returns-then-mark_in-word
returns-then-mark_in-word c = grind (arith, common_steps, decimal_without, digits_known)

pub returns-else-mark_in-word : goal.returns-else-mark_in-word
returns-else-mark_in-word c = grind (arith, common_steps, decimal_with, digits_known)
