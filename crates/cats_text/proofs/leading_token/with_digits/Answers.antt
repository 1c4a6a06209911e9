-- `with_digits`
use Rattle.cats_text.proofs.Common.{arith, common_steps, le-leb, and_from}
use Rattle.cats_text.proofs.Scanning.ManyBytes.{number_more}
use Rattle.cats_text.proofs.leading_token.with_digits.Goals as goal

pub loop-count-preserved : goal.loop-count-preserved
loop-count-preserved c = grind (arith, common_steps, and_from, le-leb, number_more)
