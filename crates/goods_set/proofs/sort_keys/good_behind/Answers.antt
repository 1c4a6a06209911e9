-- `good_behind`
use Rattle.goods_set.proofs.Common.{rules, sym, ◌∙◌}
use Rattle.goods_set.proofs.Places.{good_behind, no_good_behind}
use Rattle.goods_set.proofs.sort_keys.good_behind.Goals as goal

pub returns-in-Some : goal.returns-in-Some
returns-in-Some g c index e = search (rules, good_behind)

pub returns-in-None : goal.returns-in-None
returns-in-None g c index e = sym (no_good_behind (g.S.GoodsSet.goods c.args.set.now) index (sym e ∙ c.in-None.is))
