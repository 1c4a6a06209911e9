-- `short_hints`
use Rattle.commands.proofs.Common.{refl}
use Rattle.commands.proofs.fault.worked.short_hints.Goals as goal

pub returns : goal.returns
returns c = record {
  short = refl;
  plain = refl;
}
