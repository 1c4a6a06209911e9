-- `inside_of_bundles`
use Rattle.goods_set.proofs.Common.{inside_refl, inside_trans, inside_antisymm_law, inside_ordered_law}
use Rattle.goods_set.proofs.laws.inside_of_bundles.Goals as goal

pub returns : goal.returns
returns c = record { reflexive = inside_refl; transitive = inside_trans; antisymmetric = inside_antisymm_law; ordered = inside_ordered_law }
