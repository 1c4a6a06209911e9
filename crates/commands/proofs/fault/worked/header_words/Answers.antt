-- `header_words`
use Rattle.commands.proofs.Common.{refl}
use Rattle.commands.proofs.fault.worked.header_words.Goals as goal

pub returns : goal.returns
returns c = record {
  order = refl;
  capital = refl;
  colon = refl;
  comment = refl;
  quotes = refl;
  table = refl;
  no_header = refl;
  pdf = refl;
  no_dummy = refl;
  no_text = refl;
  not_ascii = refl;
}
