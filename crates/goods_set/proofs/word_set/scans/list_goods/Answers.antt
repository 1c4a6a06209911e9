-- `list_goods`
use Rattle.goods_set.proofs.Common.{rules}
use Rattle.goods_set.proofs.Listed.{words_more, words_none}
use Rattle.goods_set.proofs.word_set.scans.list_goods.Goals as goal

pub loop-k-init : goal.loop-k-init
loop-k-init c = words_none c.args.words.now c.args.out.now.items

pub loop-k-preserved : goal.loop-k-preserved
loop-k-preserved c = search (rules, words_more)
