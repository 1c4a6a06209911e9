-- `PackedBidsKeep::sort`: the goods in rising order are those that a bid keeps.
use Rattle.cats_text.proofs.Common.{List, ℕ, ap, with_goods}
use Rattle.cats_text.proofs.Spelling.Rising.{rising_of_is}
use Rattle.cats_text.proofs.keep.PackedBidsKeep.sort.Goals as goal

pub returns : goal.returns
returns c draft = ap (λ (gs : List ℕ). with_goods draft gs) (rising_of_is _ _ c.sort.ensures.rising c.sort.ensures.same)
