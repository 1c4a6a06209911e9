-- Rounding to the nearest whole number, ties to even.
use Rattle.std.specs.Prelude.{◌≡◌, ◌⊎◌, ℕ, ◌+◌, ◌*◌, ◌/◌, ◌%◌, ◌≤◌, ◌==◌, nat_lt, if◌then◌else◌}

-- m is the nearest whole number to n / d, the even one halfway
--
-- Twice the distance is at most 1. If it is exactly 1, then m is even.
pub record IsNearest (n d m : ℕ) : Type 0 where
  pub above : 2 * n ≤ (2 * m + 1) * d
  pub below : 2 * m * d ≤ 2 * n + d
  pub even : ((2 * n ≡ (2 * m + 1) * d) ⊎ (2 * m * d ≡ 2 * n + d)) → m % 2 ≡ 0

-- what is added to the whole part of a fraction, from twice the rest
abbrev pub step_up : ℕ → ℕ → ℕ → ℕ
step_up whole twice d = if nat_lt d twice then 1 else (if twice == d then whole % 2 else 0)

-- the nearest whole number to n / d (law)
abbrev pub nearest : ℕ → ℕ → ℕ
nearest n d = n / d + step_up (n / d) (2 * (n % d)) d
