-- `marks_and_signs`
use Rattle.commands.proofs.Common.{refl}
use Rattle.commands.proofs.fault.worked.marks_and_signs.Goals as goal

pub returns : goal.returns
returns c = record {
  conflict = refl;
  joined = refl;
  mark = refl;
  comment = refl;
  old_end = refl;
  zeros = refl;
  returns = refl;
  quotes = refl;
  comment_behind = refl;
  not_finite = refl;
  not_finite_number = refl;
  missing = refl;
  no_price = refl;
  no_blank = refl;
  remark = refl;
  hexadecimal = refl;
}
