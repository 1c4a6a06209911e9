-- `other_words_stay`
use Rattle.rounding.proofs.RoundedFiles.{rounded_words_are}
use Rattle.rounding.proofs.laws.other_words_stay.Goals as goal

pub returns : goal.returns
returns c = rounded_words_are
