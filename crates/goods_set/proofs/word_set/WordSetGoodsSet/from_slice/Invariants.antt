-- `WordSetGoodsSet::from_slice`
use Rattle.goods_set.proofs.Common.{◌≡◌, length, take, word_cap, word_goods}
use Rattle.goods_set.proofs.word_set.WordSetGoodsSet.from_slice.Given as goal

-- the goods so far are in the set
abbrev pub invariant-loop-good : goal.invariant-loop-good
invariant-loop-good g l = record {
  goods : word_goods (word_cap g.row.N) l.set.words ≡ take l.good-index l.rising;
  long : length l.set.words ≡ g.row.N;
}
