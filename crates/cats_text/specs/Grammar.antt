-- When a text spells a bid file. (README of CATS 2.0: three header lines, then one line for each bid, "its number, its
-- price, the numbers of its goods, then `#`"; this project's profile says which spellings of them are taken).
use Rattle.std.specs.Prelude.{◌≡◌, ◌≢◌, ℕ, true, false, List, [], ◌∷◌, ◌++◌, map, length, slice_get, Some}
use Rattle.std.specs.Prelude.{codes}
use Rattle.std.specs.List.{AllByRecursion}
use Rattle.goods_set.specs.Bundles.{has_good}
use Rattle.cats_text.specs.Lines.{Word, significant_lines}
use Rattle.cats_text.specs.Numbers.{is_number, number_of, is_price, is_too_fine, price_of}
use Rattle.bid_file.specs.Files.{PlainBid, PlainFile, IsPlainFile, goods_of}

-- the word is a number of this value
pub record SpellsNumber (w : Word) (n : ℕ) : Type 0 where
  pub number : is_number w ≡ true
  pub value : number_of w ≡ n

-- the word is a price of exactly this value
pub record SpellsPrice (w : Word) (millionths : ℕ) : Type 0 where
  pub price : is_price w ≡ true
  pub exact : is_too_fine w ≡ false
  pub value : price_of w ≡ millionths

-- no two are equal
abbrev pub AreDistinct : List ℕ → Type 0
AreDistinct [] = Unit {0}
AreDistinct (x ∷ xs) = AllByRecursion (λ y. x ≢ y) xs × AreDistinct xs

-- the words of a line spell a bid of the file: the one with the number that is first
pub record SpellsBid (f : PlainFile) (words : List Word) : Type 0 where
  pub number : Word
  pub price : Word
  pub goods : List Word
  pub bid : PlainBid
  pub words_are : words ≡ number ∷ price ∷ (goods ++ codes "#" ∷ [])
  pub number_spelled : is_number number ≡ true
  pub stands : slice_get f.bids (number_of number) ≡ Some bid
  pub price_spelled : SpellsPrice price bid.price
  pub goods_spelled : AllByRecursion (λ w. is_number w ≡ true) goods
  -- in any order, none twice
  pub distinct : AreDistinct (map number_of goods)
  pub same_goods : (g : ℕ) → has_good (map number_of goods) g ≡ has_good (goods_of f.goods bid) g

-- the value of a line's first word
abbrev pub line_number : List Word → ℕ
line_number [] = 0
line_number (w ∷ ws) = number_of w

abbrev pub significant_words : List ℕ → List (List Word)
significant_words text = map (λ l. l.words) (significant_lines text)

-- the text is this file: header lines, and a line for each bid, in any order
pub record Spells (text : List ℕ) (f : PlainFile) : Type 0 where
  pub goods : Word
  pub bids : Word
  pub dummy : Word
  pub bid_lines : List (List Word)
  pub lines_are : significant_words text ≡ (codes "goods" ∷ goods ∷ []) ∷ (codes "bids" ∷ bids ∷ [])
      ∷ (codes "dummy" ∷ dummy ∷ []) ∷ bid_lines
  pub goods_spelled : SpellsNumber goods f.goods
  pub bids_spelled : SpellsNumber bids (length f.bids)
  pub dummy_spelled : SpellsNumber dummy f.dummy
  -- one line for each bid, in any order
  pub count : length bid_lines ≡ length f.bids
  pub distinct : AreDistinct (map line_number bid_lines)
  pub each : AllByRecursion (SpellsBid f) bid_lines
  pub facts : IsPlainFile f
