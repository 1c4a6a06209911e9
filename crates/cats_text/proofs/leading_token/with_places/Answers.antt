-- `with_places`
use Rattle.cats_text.proofs.Common.{arith, common_steps, le-leb, and_from}
use Rattle.cats_text.proofs.Scanning.ManyBytes.{decimal_more}
use Rattle.cats_text.proofs.leading_token.with_places.Goals as goal

pub loop-count-preserved : goal.loop-count-preserved
loop-count-preserved c = grind (arith, common_steps, and_from, le-leb, decimal_more)
