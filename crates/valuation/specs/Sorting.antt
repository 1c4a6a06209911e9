-- Insertion sort, and how often a list has an element.
use Rattle.std.proofs.Common.{ℕ, cond, List, [], ◌∷◌, Ordering}
use Rattle.std.specs.List.{count_by}
use Rattle.std.specs.Ordering.{is_eq, is_gt}

-- an element put into a list in order
abbrev pub insert_by : {X : Type 0} → (X → X → Ordering) → X → List X → List X
insert_by cmp x [] = x ∷ []
insert_by cmp x (y ∷ ys) = cond (is_gt (cmp x y)) (y ∷ insert_by cmp x ys) (x ∷ (y ∷ ys))

-- the elements of a list in order
abbrev pub sort_by : {X : Type 0} → (X → X → Ordering) → List X → List X
sort_by cmp [] = []
sort_by cmp (x ∷ xs) = insert_by cmp x (sort_by cmp xs)

-- how often xs has the element x
abbrev pub count_of : {X : Type 0} → (X → X → Ordering) → X → List X → ℕ
count_of cmp x xs = count_by (λ y. is_eq (cmp x y)) xs
