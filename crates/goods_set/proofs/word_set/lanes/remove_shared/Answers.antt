-- `remove_shared`
use Rattle.goods_set.proofs.Common.{rules, length-take}
use Rattle.goods_set.proofs.LongWords.{shared_removed}
use Rattle.goods_set.proofs.word_set.lanes.remove_shared.Goals as goal

pub returns : goal.returns
returns c = search (rules, shared_removed, length-take)
