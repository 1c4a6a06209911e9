-- The marks of the goods that have come.
use Rattle.cats_text.proofs.Common.{◌≡◌, ◌≢◌, ℕ, ◌+◌, ◌<◌, ◌≤◌, Bool, true, false, eqb, List, [], ◌∷◌, ◌++◌, length, get_or, set, refl, arith, ◌||◌}
use Rattle.cats_text.proofs.Common.{get_or-set_same, get_or-set_other, eqb-true, eq-eqb, eqb-false, both_ways, or_left, or_right, list_any-IsPermutation}
use Rattle.cats_text.proofs.Common.{AllByRecursion, IsPermutation, IsRising, has_good, AreDistinct, IsMarked, IsListed, common_steps}
use Rattle.cats_text.proofs.Spelling.Distinct.{distinct_from_rising}
use Rattle.cats_text.proofs.Spelling.Rising.{IsRising-push}

-- one more number, other than those there
apart_more : (x : ℕ) (xs : List ℕ) (g : ℕ) → AllByRecursion (λ y. x ≢ y) xs → x ≢ g → AllByRecursion (λ y. x ≢ y) (xs ++ g ∷ [])
apart_more x [] g h ne = (ne, tt)
apart_more x (y ∷ ys) g h ne = (h.0, apart_more x ys g h.1 ne)

pub AreDistinct-push : (xs : List ℕ) (g : ℕ) → AreDistinct xs → has_good xs g ≡ false → AreDistinct (xs ++ g ∷ [])
AreDistinct-push [] g d h = (tt, tt)
AreDistinct-push (x ∷ xs) g d h = grind (arith, common_steps, apart_more, both_ways, eq-eqb, or_left, (AreDistinct-push xs g d.1))

has_good-push : (xs : List ℕ) (g k : ℕ) → has_good (xs ++ g ∷ []) k ≡ (has_good xs k || eqb g k)
has_good-push [] g k = elim (eqb g k) as (λ b. (b || false) ≡ b) [ true ↦ refl | false ↦ refl ]
has_good-push (x ∷ xs) g k = grind (arith, common_steps, (has_good-push xs g k))

marked_push : (goods marks : List ℕ) (m g k : ℕ) → IsMarked goods marks m → g < length marks → eqb (get_or (set marks g m) k 0) m ≡ has_good (goods ++ g ∷ []) k
marked_push goods marks m g k old there = grind (arith, common_steps, eq-eqb, eqb-false, eqb-true, get_or-set_other, get_or-set_same, has_good-push, or_right)

older_push : (goods marks : List ℕ) (m g k : ℕ) → IsMarked goods marks m → g < length marks → get_or (set marks g m) k 0 ≤ m
older_push goods marks m g k old there = grind (arith, common_steps, eqb-false, eqb-true, get_or-set_other, get_or-set_same)

-- one more good, marked
pub IsMarked-push : (goods marks : List ℕ) (m g : ℕ) → IsMarked goods marks m → has_good goods g ≡ false → g < length marks
    → IsMarked (goods ++ g ∷ []) (set marks g m) m
IsMarked-push goods marks m g old new there = grind (arith, common_steps, AreDistinct-push, marked_push, older_push)

-- a longer list of marks, the new ones 0
pub IsMarked-covered : (goods marks more : List ℕ) (m : ℕ) → IsMarked goods marks m → ((k : ℕ) → get_or more k 0 ≡ get_or marks k 0) → IsMarked goods more m
IsMarked-covered goods marks more m old same = grind (arith, common_steps)

-- the goods in rising order have the same marks
pub IsMarked-sorted : (goods sorted marks : List ℕ) (m : ℕ) → IsMarked goods marks m → IsPermutation goods sorted → IsRising sorted → IsMarked sorted marks m
IsMarked-sorted goods sorted marks m old moved rises = grind (arith, common_steps, distinct_from_rising, list_any-IsPermutation)

-- one more good from the least on that is above those that rise
behind_all : (goods : List ℕ) (g k least : ℕ) → ((j : ℕ) → has_good goods j ≡ true → j < least) → least ≤ g → has_good (goods ++ g ∷ []) k ≡ true → k < g + 1
behind_all goods g k least below le h = grind (arith, common_steps, eqb-true, has_good-push)

pub IsListed-push : (goods marks : List ℕ) (m : ℕ) (rises : Bool) (least g : ℕ) → IsListed goods marks m rises least → least ≤ g → g < 65536
    → IsListed (goods ++ g ∷ []) marks m rises (g + 1)
IsListed-push goods marks m true least g old le fits = grind (arith, common_steps, IsRising-push, behind_all)
IsListed-push goods marks m false least g old le fits = let none : 65536 ≤ least = old.none refl in absurd (omega arith)
