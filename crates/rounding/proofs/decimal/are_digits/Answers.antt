-- `are_digits`
use Rattle.rounding.proofs.Common.{arith, common_steps}
use Rattle.rounding.proofs.Words.{digits_both}
use Rattle.rounding.proofs.decimal.are_digits.Goals as goal

pub returns-then-digits_alone : goal.returns-then-digits_alone
returns-then-digits_alone c = grind (arith, common_steps, digits_both)

pub returns-else-digits_alone : goal.returns-else-digits_alone
returns-else-digits_alone c = grind (arith, common_steps, digits_both)
