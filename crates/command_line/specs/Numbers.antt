-- Numbers of a command line, by their texts.
use Rattle.std.specs.Prelude.{◌==◌, ◌||◌, ◌^◌, ℕ, Bool, false, List, [], ◌∷◌, Option, Some, None, find, if◌then◌else◌}
use Rattle.std.specs.Str.Parse.{digits_value, without_leading_plus}
use Rattle.clap.specs.ValueTests.{is_unsigned_in}

-- the decimal number of a text, which may begin with '+', if it is at most this
abbrev pub number_up_to : ℕ → List ℕ → Option ℕ
number_up_to most text = if is_unsigned_in 0 most text then Some (digits_value 10 (without_leading_plus text)) else None

-- the number in a limit's text
abbrev pub limit_of : List ℕ → Option ℕ
limit_of text = number_up_to 18446744073709551615 text

-- which power of ten a number is, from 1 to 1,000,000,000,000
abbrev pub tens_of : ℕ → Option ℕ
tens_of n = find (λ k. 10 ^ k == n) (0 ∷ 1 ∷ 2 ∷ 3 ∷ 4 ∷ 5 ∷ 6 ∷ 7 ∷ 8 ∷ 9 ∷ 10 ∷ 11 ∷ 12 ∷ [])

-- the first byte is '+' or '-'
abbrev pub begins_with_sign : List ℕ → Bool
begins_with_sign [] = false
begins_with_sign (b ∷ rest) = b == 43 || b == 45
