-- `heavy_bids`
use Rattle.commands.proofs.Common.{refl}
use Rattle.std.specs.Fmt.{digits}
use Rattle.commands.proofs.worked.heavy_bids.Goals as goal

pub returns : goal.returns
unfolding digits
returns c = record {
  of_each = λ goods is. rw is refl;
  of_all = λ goods is. rw is refl;
  twenty = λ goods is. rw is refl;
  more = λ goods is. rw is refl;
  status = λ goods. refl;
}
