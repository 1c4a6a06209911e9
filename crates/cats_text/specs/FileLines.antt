-- The file that lines without a fault spell.
use Rattle.std.specs.Prelude.{ℕ, ◌+◌, ◌-◌, nat_lt, nat_le, not, List, [], ◌∷◌, ◌++◌, length, map}
use Rattle.std.specs.Prelude.{filter, filter_map, find, fold, take_while, set, replicate, Option, Some, None}
use Rattle.std.specs.Prelude.{option_map}
use Rattle.goods_set.specs.Bundles.{with_good}
use Rattle.cats_text.specs.Lines.{Word}
use Rattle.cats_text.specs.Numbers.{number_of, price_of}
use Rattle.cats_text.specs.Grammar.{line_number, significant_words}
use Rattle.cats_text.specs.Faults.{is_end, header_value}
use Rattle.bid_file.specs.Files.{PlainBid, PlainFile}

-- ---- a bid

-- the numbers in rising order
abbrev pub rising_of : List ℕ → List ℕ
rising_of [] = []
rising_of (x ∷ xs) = with_good x (rising_of xs)

-- the words before the first `#`
abbrev pub before_end : List Word → List Word
before_end ws = take_while (λ w. not (is_end w)) ws

-- the real goods that the words name, in their order
abbrev pub real_goods : ℕ → List Word → List ℕ
real_goods G ws = filter (λ v. nat_lt v G) (map number_of ws)

-- the first dummy that they name
abbrev pub dummy_in : ℕ → List Word → Option ℕ
dummy_in G ws = option_map (λ v. v - G) (find (λ v. nat_le G v) (map number_of ws))

-- the bid of a line's words, without its number
abbrev pub bid_of : ℕ → List Word → PlainBid
bid_of G [] = record { price = 0; goods = []; dummy = None }
bid_of G (_ ∷ []) = record { price = 0; goods = []; dummy = None }
bid_of G (_ ∷ p ∷ gs) = record {
  price = price_of p;
  goods = rising_of (real_goods G (before_end gs));
  dummy = dummy_in G (before_end gs);
}

-- ---- bids by number

-- the bid at its number
abbrev pub put_slot : List (Option PlainBid) → ℕ → PlainBid → List (Option PlainBid)
put_slot slots n b = set (slots ++ replicate (n + 1 - length slots) None) n (Some b)

-- the bids of the places that have one
abbrev pub filled : List (Option PlainBid) → List PlainBid
filled slots = filter_map (λ slot. slot) slots

-- the bids of lines, each at its number
abbrev pub slots_of : ℕ → List (List Word) → List (Option PlainBid)
slots_of G lines = fold (λ slots l. put_slot slots (line_number l) (bid_of G l)) [] lines

abbrev pub file_of_lines : List (List Word) → PlainFile
file_of_lines (g ∷ b ∷ d ∷ lines) = record {
  goods = header_value g;
  dummy = header_value d;
  bids = filled (slots_of (header_value g) lines);
}
file_of_lines _ = record { goods = 0; dummy = 0; bids = [] }

-- the file of a text without a fault
abbrev pub spelled_file : List ℕ → PlainFile
spelled_file text = file_of_lines (significant_words text)
