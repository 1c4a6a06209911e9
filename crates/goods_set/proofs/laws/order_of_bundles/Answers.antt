-- `order_of_bundles`
use Rattle.goods_set.proofs.Common.{bundle_cmp_total, bundle_cmp_equal, sort_key_less}
use Rattle.goods_set.proofs.laws.order_of_bundles.Goals as goal

pub returns : goal.returns
returns c = record { total = bundle_cmp_total; equal = bundle_cmp_equal; sort_keys = sort_key_less }
