-- A rounded text as words, and a file whose prices are multiplied.
use Rattle.std.specs.Prelude.{ℕ, ◌*◌, List, [], ◌∷◌, ◌++◌, map, take, drop}
use Rattle.bid_file.specs.Files.{PlainBid, PlainFile}
use Rattle.cats_text.specs.Lines.{Word, significant_lines}
use Rattle.rounding.specs.Replacements.{rounded_word}
use Rattle.rounding.specs.declared.replacement.PriceRule.{PriceRule}

-- the words of a text's significant lines
abbrev pub text_words : List ℕ → List (List Word)
text_words text = map (λ l. l.words) (significant_lines text)

-- a line's words with the second one rounded
abbrev pub rounded_line_words : PriceRule → List Word → List Word
rounded_line_words rule [] = []
rounded_line_words rule (w ∷ []) = w ∷ []
rounded_line_words rule (w ∷ price ∷ ws) = w ∷ rounded_word rule price ∷ ws

-- the words of significant lines, with the second word of each line after the third one rounded
abbrev pub rounded_lines_words : PriceRule → List (List Word) → List (List Word)
rounded_lines_words rule lines = take 3 lines ++ map (rounded_line_words rule) (drop 3 lines)

-- the bid at so many times its price
abbrev pub times_bid : ℕ → PlainBid → PlainBid
times_bid n b = record { price = n * b.price; goods = b.goods; dummy = b.dummy }

-- the file with each price so many times as large; bids, goods and dummy goods stay
abbrev pub times_file : ℕ → PlainFile → PlainFile
times_file n f = record { goods = f.goods; dummy = f.dummy; bids = map (times_bid n) f.bids }
