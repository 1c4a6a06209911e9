-- `ListSet::left_of`
use Rattle.goods_set.proofs.Common.{◌≡◌, ◌≤◌, length, take, without}
use Rattle.goods_set.proofs.list_set.ListSet.left_of.Given as goal

-- the goods so far that are not in the set
abbrev pub invariant-loop-good : goal.invariant-loop-good
invariant-loop-good l = (l.left ≡ without (take l.good-index l.goods) l.self.goods) × (length l.left ≤ l.good-index)
