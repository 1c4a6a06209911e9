-- The numbers of bids in a text, as `--bids` takes it: runs of digits between blanks, in any lines.
use Rattle.std.specs.Prelude.{◌≡◌, ℕ, ◌+◌, ◌==◌, nat_le, Bool, true, false, not, ◌&&◌, ◌||◌, if◌then◌else◌}
use Rattle.std.specs.Prelude.{List, [], ◌∷◌, length, Option, Some, None, map}
use Rattle.std.specs.List.{filter, flat_map, list_all, slice_split}
use Rattle.cats_text.specs.Lines.{Word}
use Rattle.cats_text.specs.Numbers.{digits_alone, number_of}
use Rattle.analysis.specs.declared.winners.bid_numbers.BidNumbersFault.{BidNumbersFault}
use Rattle.analysis.specs.declared.winners.bid_numbers.BidNumbersFault.TheVariants.{NotANumber, Memory}

-- the lines of a text
abbrev pub lines_in : List ℕ → List (List ℕ)
lines_in text = slice_split (λ b. b == 10) text

-- space, tab and CR
abbrev pub is_gap : ℕ → Bool
is_gap b = (b == 32) || (b == 9) || (b == 13)

abbrev pub is_word : List ℕ → Bool
is_word part = not (length part == 0)

-- the words of a line: gaps divide them
abbrev pub words_in : List ℕ → List Word
words_in line = filter is_word (slice_split is_gap line)

-- digits, worth at most 2 to the power 32 less 1
abbrev pub is_bid_number : Word → Bool
is_bid_number w = digits_alone w && nat_le (number_of w) 4294967295

-- the number that a word is, if it is one
abbrev pub bid_number : Word → Option ℕ
bid_number w = if is_bid_number w then Some (number_of w) else None

-- the first line with a word that is not a bid's number
--
-- The first of these lines has the number n.
abbrev pub faulty_line : ℕ → List (List ℕ) → Option ℕ
faulty_line n [] = None
faulty_line n (line ∷ lines) = if list_all is_bid_number (words_in line) then faulty_line (n + 1) lines else Some n

abbrev pub all_words : List (List ℕ) → List Word
all_words lines = flat_map words_in lines

-- the bids' numbers in a text, between blanks and line ends
abbrev pub bid_numbers : List ℕ → List ℕ
bid_numbers text = map number_of (all_words (lines_in text))

-- whether the first word is a number
abbrev pub begins_with_number : List Word → Bool
begins_with_number [] = false
begins_with_number (w ∷ ws) = is_bid_number w

-- why a text gives no bids' numbers: a line has another word, or want of memory after a number
abbrev pub RefusesNumbers : List ℕ → BidNumbersFault → Type 0
RefusesNumbers text (NotANumber line) = faulty_line 1 (lines_in text) ≡ Some line
RefusesNumbers text Memory = begins_with_number (all_words (lines_in text)) ≡ true
