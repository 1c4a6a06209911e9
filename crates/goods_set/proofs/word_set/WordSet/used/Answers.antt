-- `WordSet::used`
use Rattle.goods_set.proofs.Common.{arith}
use Rattle.goods_set.proofs.Bits.{used_goods}
use Rattle.goods_set.proofs.word_set.WordSet.used.Goals as goal

pub returns-clause-goods : goal.returns-clause-goods
returns-clause-goods g c = used_goods g.row.N c.args.self.now.words c.min.result (omega arith) c.min.ensures
