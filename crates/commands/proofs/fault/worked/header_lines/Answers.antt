-- `header_lines`
use Rattle.commands.proofs.Common.{refl}
use Rattle.commands.proofs.fault.worked.header_lines.Goals as goal

pub returns : goal.returns
returns c = record {
  no_number = refl;
  one_line = refl;
  comment_behind = refl;
  two_numbers = refl;
  more_words = refl;
}
