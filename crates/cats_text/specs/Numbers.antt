-- Numbers and prices as words.
use Rattle.std.specs.Prelude.{ℕ, ◌+◌, ◌-◌, ◌*◌, ◌==◌, nat_lt, nat_le, Bool, false, not, ◌&&◌, ◌||◌, if◌then◌else◌, []}
use Rattle.std.specs.Prelude.{◌∷◌, ◌++◌, fold, take, drop}
use Rattle.std.specs.List.{list_all, list_any}
use Rattle.cats_text.specs.Lines.{Word}

abbrev pub is_digit : ℕ → Bool
is_digit b = nat_le 48 b && nat_le b 57

abbrev pub digits_alone : Word → Bool
digits_alone w = list_all is_digit w

-- whether a word is digits alone
abbrev pub is_number : Word → Bool
is_number [] = false
is_number (b ∷ bs) = digits_alone (b ∷ bs)

-- the number that digits spell, however many they are
abbrev pub number_of : Word → ℕ
number_of w = fold (λ n b. 10 * n + (b - 48)) 0 w

-- the digits before the first point, and what is behind it
abbrev pub whole_part : Word → Word
whole_part [] = []
whole_part (b ∷ bs) = if b == 46 then [] else b ∷ whole_part bs

abbrev pub has_point : Word → Bool
has_point w = list_any (λ b. b == 46) w

abbrev pub places : Word → Word
places [] = []
places (b ∷ bs) = if b == 46 then bs else places bs

-- whether a word is digits; or digits, one point, digits
abbrev pub is_price : Word → Bool
is_price w = is_number (whole_part w) && (not (has_point w) || is_number (places w))

-- some place from the n-th on is not 0
abbrev pub has_place_from : ℕ → Word → Bool
has_place_from n ds = list_any (λ b. not (b == 48)) (drop n ds)

-- the greatest price, in whole units
abbrev pub GREATEST_PRICE : ℕ
GREATEST_PRICE = 1000000000000

-- whether a price is above the greatest one
abbrev pub is_too_large : Word → Bool
is_too_large w = nat_lt GREATEST_PRICE (number_of (whole_part w))
    || ((number_of (whole_part w) == GREATEST_PRICE) && has_place_from 0 (places w))

-- whether a price has a digit other than 0 after its sixth place
abbrev pub is_too_fine : Word → Bool
is_too_fine w = has_place_from 6 (places w)

-- the first six places, filled up with zeros
abbrev pub six_places : Word → Word
six_places ds = take 6 (ds ++ 48 ∷ 48 ∷ 48 ∷ 48 ∷ 48 ∷ 48 ∷ [])

-- a price's value; if it is too fine, that of its first six places
abbrev pub price_of : Word → ℕ
price_of w = 1000000 * number_of (whole_part w) + number_of (six_places (places w))
