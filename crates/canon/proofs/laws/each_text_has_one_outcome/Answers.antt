-- `each_text_has_one_outcome`
use Rattle.canon.proofs.CanonicalFiles.Texts.{has_outcome, one_outcome}
use Rattle.canon.proofs.laws.each_text_has_one_outcome.Goals as goal

pub returns : goal.returns
returns c = record { some = has_outcome; one = one_outcome }
