-- `difference_is_the_least_bidder`
use Rattle.canon.proofs.TwoFiles.Differences.{unequal_bidder_is, numbers_by_table}
use Rattle.canon.proofs.CanonicalAuctions.Sames.{HasAtoms-auction}
use Rattle.canon.proofs.laws.difference_is_the_least_bidder.Goals as goal

pub returns : goal.returns
returns c = record {
  lesser = λ a b bidder e. (unequal_bidder_is a b bidder e).earlier;
  differ = λ a b bidder e. (unequal_bidder_is a b bidder e).differ;
  numbers = λ cap a b h k same bidder e. numbers_by_table a b (HasAtoms-auction cap a h) (HasAtoms-auction cap b k) same bidder e;
}
