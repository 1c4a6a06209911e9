-- The goods of sets, and the indices of masks.
use Rattle.std.specs.Prelude.{ℕ, ◌*◌, List, length}
use Rattle.goods_set.specs.declared.list_set.ListSet.{ListSet}
use Rattle.goods_set.specs.declared.mask.long.LongMask.{LongMask}
use Rattle.goods_set.specs.declared.word_set.WordSet.{WordSet}
use Rattle.goods_set.specs.Words.{word_goods, word_cap}

-- the goods of a set that is a list
abbrev pub list_goods : ListSet → List ℕ
list_goods set = set.goods

-- the goods of a set of words
abbrev pub set_goods : {n : ℕ} → WordSet n → List ℕ
set_goods {n} set = word_goods (word_cap n) set.words

-- the indices in a mask
abbrev pub mask_indices : LongMask → List ℕ
mask_indices mask = word_goods (64 * length mask.words.items) mask.words.items
