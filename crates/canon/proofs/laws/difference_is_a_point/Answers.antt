-- `difference_is_a_point`
use Rattle.canon.proofs.Common.{sym, ◌∙◌}
use Rattle.canon.proofs.TwoFiles.Differences.{unequal_bundle_is, unequal_bundle_swap, greater_has_point}
use Rattle.canon.proofs.CanonicalAuctions.Sames.{HasAtoms-auction}
use Rattle.canon.proofs.laws.difference_is_a_point.Goals as goal

pub returns : goal.returns
returns c = record {
  earlier = λ cap a b h k bundle e. (unequal_bundle_is a b bundle e).earlier.agree;
  differ = λ cap a b h k bundle e. (unequal_bundle_is a b bundle e).differ;
  left = λ cap a b h k same bundle e l. greater_has_point a b (HasAtoms-auction cap b k) same bundle e l;
  right = λ cap a b h k same bundle e l. greater_has_point b a (HasAtoms-auction cap a h) (sym same) bundle (unequal_bundle_swap a b same ∙ e) l;
}
