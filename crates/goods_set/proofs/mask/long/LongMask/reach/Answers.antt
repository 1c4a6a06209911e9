-- `LongMask::reach`
use Rattle.goods_set.proofs.Common.{rules}
use Rattle.goods_set.proofs.LongWords.{words_grown}
use Rattle.goods_set.proofs.mask.long.LongMask.reach.Goals as goal

pub returns-in_ok-resize-clause-same : goal.returns-in_ok-resize-clause-same
returns-in_ok-resize-clause-same c = search (rules, words_grown)
