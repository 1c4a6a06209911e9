-- `other_words`
use Rattle.commands.proofs.Common.{refl}
use Rattle.commands.proofs.fault.worked.other_words.Goals as goal

pub returns : goal.returns
returns c = record {
  commas = refl;
  comma = refl;
  list = refl;
  colon = refl;
  text = refl;
  letters = refl;
  name = refl;
  thousands = refl;
  range = refl;
  not_ascii = refl;
}
