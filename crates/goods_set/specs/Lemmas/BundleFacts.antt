-- The facts of a bundle hold in one way at most, so that a struct may keep them.
use Rattle.std.specs.Prelude.{ℕ, ◌<◌, List, [], ◌∷◌}
use Rattle.std.specs.List.{AllByRecursion-prop}
use Rattle.std.specs.Coded.{×_prop, Unit-prop, le_prop}
use Rattle.goods_set.specs.Bundles.{AreAbove, AreBelow, IsRising, IsBundle}

-- each fact holds in one way at most, so that a struct may keep it
AreAbove-prop : (g : ℕ) (xs : List ℕ) → IsProp (AreAbove g xs)
AreAbove-prop g xs = AllByRecursion-prop (λ x. g < x) (λ x. le_prop) xs

pub AreBelow-prop : (g : ℕ) (xs : List ℕ) → IsProp (AreBelow g xs)
AreBelow-prop g xs = AllByRecursion-prop (λ x. x < g) (λ x. le_prop) xs

pub IsRising-prop : (xs : List ℕ) → IsProp (IsRising xs)
IsRising-prop [] = Unit-prop
IsRising-prop (x ∷ xs) = ×_prop (AreAbove-prop x xs) (IsRising-prop xs)

pub IsBundle-prop : (G : ℕ) (xs : List ℕ) → IsProp (IsBundle G xs)
IsBundle-prop G xs = ×_prop (IsRising-prop xs) (AreBelow-prop G xs)
