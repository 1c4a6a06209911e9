-- `no_difference_of_the_same`
use Rattle.canon.proofs.TwoFiles.Differences.{no_difference_same}
use Rattle.canon.proofs.CanonicalAuctions.Sames.{HasAtoms-auction}
use Rattle.canon.proofs.laws.no_difference_of_the_same.Goals as goal

pub returns : goal.returns
returns c = λ cap a b h k. no_difference_same a b (HasAtoms-auction cap a h) (HasAtoms-auction cap b k)
