-- `keep_first`
use Rattle.cats_text.proofs.Common.{bytes_up}
use Rattle.cats_text.proofs.eight.keep_first.Goals as goal

pub returns : goal.returns
returns c = bytes_up c.args.eight c.args.count c.requires
