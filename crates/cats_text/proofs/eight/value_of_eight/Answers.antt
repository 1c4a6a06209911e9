-- `value_of_eight`
use Rattle.cats_text.proofs.Common.{eight_is}
use Rattle.cats_text.proofs.eight.value_of_eight.Goals as goal

pub returns : goal.returns
returns c ds eight e = eight_is ds c.args.eight eight e
