-- The goods that a list set holds.
use Rattle.std.specs.Prelude.{ℕ, List}
use Rattle.goods_set.specs.declared.list_set.goods.Held.{Held}
use Rattle.goods_set.specs.declared.list_set.goods.Held.TheVariants.{Few, Many}

abbrev pub held_goods : Held → List ℕ
held_goods (Few alloc few) = few
held_goods (Many goods) = goods.items
