-- What the digits behind a cut are worth.
use Rattle.std.specs.Prelude.{ℕ, ◌==◌, nat_le, if◌then◌else◌}
use Rattle.rounding.specs.declared.digits.Rest.{Rest}
use Rattle.rounding.specs.declared.digits.Rest.TheVariants.{Nothing, Zeros, BelowHalf, Half, AboveHalf}

-- with one more digit
abbrev pub rest_with : Rest → ℕ → Rest
rest_with Nothing b = if b == 48 then Zeros
    else (if b == 53 then Half else (if nat_le b 52 then BelowHalf else AboveHalf))
rest_with Zeros b = if b == 48 then Zeros else BelowHalf
rest_with BelowHalf b = BelowHalf
rest_with Half b = if b == 48 then Half else AboveHalf
rest_with AboveHalf b = AboveHalf
