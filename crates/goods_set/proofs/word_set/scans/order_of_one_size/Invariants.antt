-- `order_of_one_size`
use Rattle.goods_set.proofs.Firsts.{AreSameWords}
use Rattle.goods_set.proofs.word_set.scans.order_of_one_size.Given as goal

abbrev pub invariant-loop-k : goal.invariant-loop-k
invariant-loop-k l = AreSameWords l.a l.b l.k
