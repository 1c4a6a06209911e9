-- `lines_and_ends`
use Rattle.commands.proofs.Common.{refl}
use Rattle.commands.proofs.fault.worked.lines_and_ends.Goals as goal

pub returns : goal.returns
returns c = record {
  dummy_alone = refl;
  no_goods = refl;
  empty = refl;
  one_line = refl;
  again = refl;
  comment = refl;
  remark = refl;
  bid = refl;
}
