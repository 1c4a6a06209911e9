-- Decimals as words. One has one or more digits with at most one point among or beside them; then perhaps `e` or `E`, a
-- sign or none, and one or more digits. The value is exact, however long the word is.
use Rattle.std.specs.Prelude.{ℕ, suc, ◌+◌, ◌-◌, ◌*◌, ◌^◌, ◌==◌, Bool, false, not, ◌&&◌, ◌||◌, if◌then◌else◌}
use Rattle.std.specs.Prelude.{[], ◌∷◌, ◌++◌, length, min}
use Rattle.std.specs.List.{list_any}
use Rattle.cats_text.specs.Lines.{Word}
use Rattle.cats_text.specs.Numbers.{is_number, number_of, whole_part, places}

-- ---- the parts of a word

-- `e` or `E`
abbrev pub is_exponent_mark : ℕ → Bool
is_exponent_mark b = (b == 101) || (b == 69)

-- the bytes before the first `e` or `E`, and those behind it
abbrev pub significand : Word → Word
significand [] = []
significand (b ∷ bs) = if is_exponent_mark b then [] else b ∷ significand bs

abbrev pub exponent : Word → Word
exponent [] = []
exponent (b ∷ bs) = if is_exponent_mark b then bs else exponent bs

abbrev pub has_exponent : Word → Bool
has_exponent w = list_any is_exponent_mark w

-- `+` or `-`
abbrev pub is_sign : ℕ → Bool
is_sign b = (b == 43) || (b == 45)

abbrev pub without_sign : Word → Word
without_sign [] = []
without_sign (b ∷ bs) = if is_sign b then bs else b ∷ bs

abbrev pub has_minus : Word → Bool
has_minus [] = false
has_minus (b ∷ bs) = b == 45

-- the digits before the point and those behind it, as one run
abbrev pub digits : Word → Word
digits w = whole_part (significand w) ++ places (significand w)

-- digits with at most one point, perhaps an exponent, and no sign in front
abbrev pub is_decimal : Word → Bool
is_decimal w = is_number (digits w) && (not (has_exponent w) || is_number (without_sign (exponent w)))

-- ---- the value of a decimal

-- The number that the digits spell. In millionths the value times a power of ten is this number, ten times as large as
-- often as `raised` says, and a tenth as large as often as `lowered` says.
abbrev pub mantissa : Word → ℕ
mantissa w = number_of (digits w)

abbrev pub exponent_size : Word → ℕ
exponent_size w = number_of (without_sign (exponent w))

abbrev pub raised : ℕ → Word → ℕ
raised tens w = 6 + tens + (if has_minus (exponent w) then 0 else exponent_size w)

abbrev pub lowered : Word → ℕ
lowered w = length (places (significand w)) + (if has_minus (exponent w) then exponent_size w else 0)

-- the numerator, in millionths, of a decimal's value times a power of ten, its powers of ten cut: no replacement
-- changes (law)
--
-- 10^19 millionths are above the greatest price, and a number of some digits is less than half of the power that has
-- one place more than it has digits. So a long exponent makes no large number. Of the two powers one is 1.
abbrev pub top : ℕ → Word → ℕ
top tens w = mantissa w * 10 ^ min 19 (raised tens w - lowered w)

-- the denominator beside `top`, a power of ten
abbrev pub bottom : ℕ → Word → ℕ
bottom tens w = 10 ^ min (suc (length (digits w))) (lowered w - raised tens w)

-- the numerator, in millionths, of a decimal's value times a power of ten
abbrev pub exact_top : ℕ → Word → ℕ
exact_top tens w = mantissa w * 10 ^ (raised tens w - lowered w)

-- the denominator beside `exact_top`, a power of ten
abbrev pub exact_bottom : ℕ → Word → ℕ
exact_bottom tens w = 10 ^ (lowered w - raised tens w)
