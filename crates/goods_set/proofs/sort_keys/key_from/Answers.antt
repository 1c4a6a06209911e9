-- `key_from`
use Rattle.goods_set.proofs.Common.{rules, arith, sym, sort_key_of-short, sort_key_of-long}
use Rattle.goods_set.specs.SortKeys.{first_goods}
use Rattle.goods_set.proofs.sort_keys.key_from.Goals as goal

pub returns-then-size-ge65535 : goal.returns-then-size-ge65535
returns-then-size-ge65535 c goods size first second third = sym (sort_key_of-long goods (omega (arith, c.if-size-ge65535.true, size)))

pub returns : goal.returns
unfolding first_goods
returns c goods size first second third = search (rules, sort_key_of-short)
