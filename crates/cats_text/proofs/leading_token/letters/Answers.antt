-- `letters`
use Rattle.cats_text.proofs.Common.{arith, common_steps, ne_eqb}
use Rattle.cats_text.proofs.Scanning.ManyBytes.{letters_more}
use Rattle.cats_text.proofs.leading_token.letters.Goals as goal

pub loop-count-preserved : goal.loop-count-preserved
loop-count-preserved c = grind (arith, common_steps, ne_eqb, letters_more)
