-- `list_goods`
use Rattle.goods_set.proofs.Common.{◌≡◌, ◌*◌, ◌++◌, word_goods}
use Rattle.goods_set.proofs.word_set.scans.list_goods.Given as goal

abbrev pub invariant-loop-k : goal.invariant-loop-k
invariant-loop-k l = l.out.items ≡ l.fn.out.items ++ word_goods (64 * l.k) l.words
