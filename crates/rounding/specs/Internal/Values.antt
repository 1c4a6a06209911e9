-- What a decimal's held value says of a fraction.
use Rattle.std.specs.Prelude.{◌≡◌, ℕ, suc, ◌+◌, ◌-◌, ◌*◌, ◌/◌, ◌%◌, ◌<◌, if◌then◌else◌, min}
use Rattle.bid_file.specs.declared.limits.TheConstants.{MAX_PRICE}
use Rattle.cats_text.specs.Lines.{Word}
use Rattle.cats_text.specs.Numbers.{number_of}
use Rattle.rounding.specs.Decimals.{has_minus, without_sign}
use Rattle.rounding.specs.declared.digits.Rest.{Rest}
use Rattle.rounding.specs.declared.digits.Rest.TheVariants.{Nothing, Zeros, BelowHalf, Half, AboveHalf}
use Rattle.rounding.specs.declared.value.Value.{Value}

-- the fraction x / p, below 1, is what the rest says; if p is not 1, it is even
abbrev pub IsRest : Rest → ℕ → ℕ → Type 0
IsRest Nothing x p = (x ≡ 0) × (p ≡ 1)
IsRest Zeros x p = (x ≡ 0) × (p % 2 ≡ 0)
IsRest BelowHalf x p = (0 < x) × (2 * x < p) × (p % 2 ≡ 0)
IsRest Half x p = (0 < x) × (2 * x ≡ p)
IsRest AboveHalf x p = p < 2 * x

-- the whole part of n / d, held one above the greatest price, and what is left
pub record Holds (v : Value) (n d : ℕ) : Type 0 where
  pub whole : v.whole ≡ min (suc MAX_PRICE) (n / d)
  pub bottom : 0 < d
  pub rest : IsRest v.rest (n % d) d

-- by which powers of ten the number that the digits spell is raised and lowered, to be millionths of the value times a
-- power of ten: of the bytes behind the exponent's mark, and of how many digits are behind the point
abbrev pub shift_up : ℕ → Word → ℕ → ℕ
shift_up tens x places = (6 + tens + (if has_minus x then 0 else number_of (without_sign x)))
    - (places + (if has_minus x then number_of (without_sign x) else 0))

abbrev pub shift_down : ℕ → Word → ℕ → ℕ
shift_down tens x places = (places + (if has_minus x then number_of (without_sign x) else 0))
    - (6 + tens + (if has_minus x then 0 else number_of (without_sign x)))
