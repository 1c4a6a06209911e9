-- `is_price`
use Rattle.rounding.proofs.Common.{arith, common_steps}
use Rattle.rounding.proofs.Words.{price_without, price_with}
use Rattle.rounding.proofs.replacement.is_price.Goals as goal

pub returns-then-whole-word : goal.returns-then-whole-word
returns-then-whole-word c = grind (arith, common_steps, price_without)

pub returns-else-whole-word : goal.returns-else-whole-word
returns-else-whole-word c = grind (arith, common_steps, price_with)
