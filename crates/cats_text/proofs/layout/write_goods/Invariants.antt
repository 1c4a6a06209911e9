-- `write_goods`
use Rattle.cats_text.proofs.Common.{◌≡◌, ◌+◌, ◌*◌, ◌≤◌, ◌++◌, length, take, drop, tabbed, GOOD}
use Rattle.cats_text.proofs.layout.write_goods.Given as goal

abbrev pub invariant-loop-left : goal.invariant-loop-left
invariant-loop-left l =
    (GOOD * length l.left ≤ l.start) × (l.start ≤ l.end) × (l.end + GOOD * length l.left ≤ l.start + GOOD * length l.goods)
    × (l.left ≡ take (length l.left) l.goods)
    × (tabbed l.left ++ drop l.start l.text ≡ tabbed l.goods ++ drop l.end l.fn.text)

abbrev pub decreases-loop-left : goal.decreases-loop-left
decreases-loop-left l = length l.left
