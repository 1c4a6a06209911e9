-- `same_auction_same_text`
use Rattle.canon.proofs.CanonicalFiles.Texts.{same_text, same_from_text}
use Rattle.canon.proofs.laws.same_auction_same_text.Goals as goal

pub returns : goal.returns
returns c f g h k = (same_from_text f g h k, same_text f g h k)
