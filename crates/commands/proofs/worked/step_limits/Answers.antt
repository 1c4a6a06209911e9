-- `step_limits`
use Rattle.commands.proofs.Common.{refl}
use Rattle.std.specs.Fmt.{digits}
use Rattle.commands.proofs.worked.step_limits.Goals as goal

pub returns : goal.returns
unfolding digits
returns c = record {
  bundle = λ goods is. rw is refl;
  no_goods = λ goods is. rw is refl;
  first_file = λ goods is. rw is refl;
  status = λ goods. refl;
}
