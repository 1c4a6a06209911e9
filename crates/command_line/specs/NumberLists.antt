-- The numbers that words name: each word is a list, with commas, of numbers and of ranges of numbers.
use Rattle.std.specs.Prelude.{◌==◌, ◌-◌, ◌+◌, ◌++◌, ℕ, List, [], ◌∷◌, nat_le, Option, Some, None, if◌then◌else◌}
use Rattle.std.specs.Prelude.{filter, not, option_and_then, option_map}
use Rattle.std.specs.List.{range_with_len, slice_split}
use Rattle.std.specs.Option.{option_zip}
use Rattle.command_line.specs.Numbers.{begins_with_sign, number_up_to}

-- a number is digits alone, and at most this
abbrev pub named_number : ℕ → List ℕ → Option ℕ
named_number most text = if begins_with_sign text then None else number_up_to most text

-- the first and the last number of a range, by its texts; one number is both
abbrev pub ends_of : ℕ → List (List ℕ) → Option (ℕ × ℕ)
ends_of most (text ∷ []) = option_zip (named_number most text) (named_number most text)
ends_of most (first ∷ last ∷ []) = option_zip (named_number most first) (named_number most last)
ends_of most _ = None

abbrev pub numbers_between : ℕ → ℕ → Option (List ℕ)
numbers_between first last = if nat_le first last then Some (range_with_len first (last + 1 - first)) else None

-- a number, or those of a range, which has a hyphen (45) between its ends
abbrev pub numbers_of_part : ℕ → List ℕ → Option (List ℕ)
numbers_of_part most part =
    option_and_then (λ ends. numbers_between ends.0 ends.1) (ends_of most (slice_split (λ b. b == 45) part))

-- two lists in one, if both are there
abbrev pub joined : Option (List ℕ) → Option (List ℕ) → Option (List ℕ)
joined found more = option_and_then (λ xs. option_map (λ ys. xs ++ ys) more) found

-- the numbers of all texts, if each has numbers
abbrev pub all_numbers : (List ℕ → Option (List ℕ)) → List (List ℕ) → Option (List ℕ)
all_numbers numbers_of [] = Some []
all_numbers numbers_of (text ∷ texts) = joined (numbers_of text) (all_numbers numbers_of texts)

-- the goods or bids that a word names: numbers and ranges between commas
abbrev pub numbers_of_word : ℕ → List ℕ → Option (List ℕ)
numbers_of_word most word = all_numbers (numbers_of_part most) (slice_split (λ b. b == 44) word)

-- each of these numbers once, where it comes first
abbrev pub firsts : List ℕ → List ℕ
firsts [] = []
firsts (n ∷ ns) = n ∷ filter (λ m. not (m == n)) (firsts ns)

-- a number that is named again adds nothing
abbrev pub numbers_of_words : ℕ → List (List ℕ) → Option (List ℕ)
numbers_of_words most words = option_map firsts (all_numbers (numbers_of_word most) words)
