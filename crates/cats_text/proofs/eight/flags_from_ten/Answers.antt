-- `flags_from_ten`
use Rattle.cats_text.proofs.Common.{flags_from_ten}
use Rattle.cats_text.proofs.eight.flags_from_ten.Goals as goal

pub returns : goal.returns
returns c = flags_from_ten c.args.eight
