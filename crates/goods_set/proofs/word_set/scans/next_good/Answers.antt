-- `next_good`: A good that is there is below 64 times the number of the words, so it fits.
use Rattle.goods_set.proofs.Common.{rules}
use Rattle.goods_set.proofs.Scans.{next_below}
use Rattle.goods_set.proofs.word_set.scans.next_good.Goals as goal

pub overflow_cast-result : goal.overflow_cast-result
overflow_cast-result c = search (rules, next_below)
