-- `count_goods`
use Rattle.goods_set.proofs.Common.{◌≡◌, ◌*◌, length, word_goods}
use Rattle.goods_set.proofs.word_set.scans.count_goods.Given as goal

abbrev pub invariant-loop-word : goal.invariant-loop-word
invariant-loop-word l = l.count ≡ length (word_goods (64 * l.word-index) l.words)
