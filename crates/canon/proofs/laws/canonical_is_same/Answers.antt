-- `canonical_is_same`
use Rattle.canon.proofs.CanonicalAuctions.Sames as proof
use Rattle.canon.proofs.CanonicalAuctions.Sames.{HasAtoms-auction, canonical_is_fixed}
use Rattle.canon.proofs.CanonicalAuctions.Smaller.{IsAuction-canonical}
use Rattle.canon.proofs.laws.canonical_is_same.Goals as goal

pub returns : goal.returns
returns c = record {
  auction = IsAuction-canonical;
  same = λ cap a h. proof.canonical_is_same a (HasAtoms-auction cap a h);
  fixed = λ cap a h. canonical_is_fixed a (HasAtoms-auction cap a h);
}
