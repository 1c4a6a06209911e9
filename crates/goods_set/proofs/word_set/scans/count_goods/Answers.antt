-- `count_goods`
use Rattle.goods_set.proofs.Common.{rules, sym}
use Rattle.goods_set.proofs.Scans.{count_none, count_more, count_fits}
use Rattle.goods_set.proofs.word_set.scans.count_goods.Goals as goal

pub loop-word-init : goal.loop-word-init
loop-word-init c = sym (count_none c.args.words.now)

pub overflow_add-count : goal.overflow_add-count
overflow_add-count c = search (rules, count_more, count_fits)

pub loop-word-preserved : goal.loop-word-preserved
loop-word-preserved c = search (rules, count_more)
