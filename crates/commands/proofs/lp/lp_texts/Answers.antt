-- `lp_texts`
use Rattle.commands.proofs.Common.{refl}
use Rattle.std.specs.Fmt.{digits}
use Rattle.commands.proofs.lp.lp_texts.Goals as goal

pub returns : goal.returns
unfolding digits
returns c = record { shared = refl; empty = refl }
