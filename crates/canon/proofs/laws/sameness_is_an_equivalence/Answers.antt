-- `sameness_is_an_equivalence`
use Rattle.canon.proofs.CanonicalAuctions.Sames.{same_refl, same_sym, same_trans}
use Rattle.canon.proofs.laws.sameness_is_an_equivalence.Goals as goal

pub returns : goal.returns
returns c = record { reflexive = same_refl; symmetric = same_sym; transitive = same_trans }
