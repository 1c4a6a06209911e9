-- `other_files`
use Rattle.commands.proofs.Common.{refl}
use Rattle.commands.proofs.fault.worked.other_files.Goals as goal

pub returns : goal.returns
returns c = record {
  conflict = refl;
  rich_text = refl;
  json = refl;
  json_list = refl;
  page = refl;
  answer = refl;
  pointer = refl;
  linear_program = refl;
  commented_program = refl;
  mps = refl;
}
