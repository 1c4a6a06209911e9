-- `every_bundle_is_listed`
use Rattle.goods_set.proofs.Common.{all_bundles_are, all_bundles_has, all_bundles_rise}
use Rattle.goods_set.proofs.laws.every_bundle_is_listed.Goals as goal

pub returns : goal.returns
returns c = record { bundles = all_bundles_are; all = all_bundles_has; rising = all_bundles_rise }
