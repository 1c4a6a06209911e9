-- `limits`
use Rattle.commands.proofs.Common.{refl}
use Rattle.commands.proofs.fault.worked.limits.Goals as goal

pub returns : goal.returns
returns c = record {
  first = refl;
  four_digits = refl;
  header = refl;
  twelve_digits = refl;
}
