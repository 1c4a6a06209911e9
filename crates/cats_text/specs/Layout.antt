-- The layout of a file. Header lines come first, then a line for each bid, by number.
use Rattle.std.specs.Prelude.{ℕ, suc, ◌/◌, ◌%◌, ◌+◌, ◌==◌, if◌then◌else◌, List, [], ◌∷◌, ◌++◌, length, map, codes}
use Rattle.std.specs.Prelude.{decimal}
use Rattle.std.specs.List.{flat_map}
use Rattle.cats_text.specs.Lines.{Word}
use Rattle.bid_file.specs.Files.{PlainBid, PlainFile, goods_of}

-- the digits without the zeros at their end
abbrev pub with_place : ℕ → Word → Word
with_place b [] = if b == 48 then [] else b ∷ []
with_place b (c ∷ cs) = b ∷ c ∷ cs

abbrev pub without_zeros : Word → Word
without_zeros [] = []
without_zeros (b ∷ bs) = with_place b (without_zeros bs)

-- the digit of a number at the place that counts so much
abbrev pub digit_at : ℕ → ℕ → ℕ
digit_at n place = 48 + n / place % 10

-- a number's last six digits, with leading zeros
abbrev pub six_digits : ℕ → Word
six_digits n = map (digit_at n) (100000 ∷ 10000 ∷ 1000 ∷ 100 ∷ 10 ∷ 1 ∷ [])

abbrev pub behind_point : Word → Word
behind_point [] = []
behind_point (b ∷ bs) = 46 ∷ b ∷ bs

-- so many millionths behind the point: nothing where there are none
abbrev pub places_text : ℕ → Word
places_text n = behind_point (without_zeros (six_digits n))

-- a price as it is written
--
-- Behind the whole part, if millionths are left, are a point and their digits without zeros at the end.
abbrev pub price_text : ℕ → Word
price_text millionths = decimal (millionths / 1000000) ++ places_text (millionths % 1000000)

abbrev pub header_text : List ℕ → ℕ → List ℕ
header_text keyword n = keyword ++ 32 ∷ decimal n ++ 10 ∷ []

abbrev pub headers_text : ℕ → ℕ → ℕ → List ℕ
headers_text goods bids dummy = header_text (codes "goods") goods ++ header_text (codes "bids") bids
    ++ header_text (codes "dummy") dummy

-- each number after a tab
abbrev pub tabbed : List ℕ → List ℕ
tabbed gs = flat_map (λ g. 9 ∷ decimal g) gs

abbrev pub bid_text : ℕ → ℕ → PlainBid → List ℕ
bid_text goods number b = decimal number ++ 9 ∷ price_text b.price ++ tabbed (goods_of goods b) ++ codes "\t#\n"

abbrev pub bids_text : ℕ → ℕ → List PlainBid → List ℕ
bids_text goods n [] = []
bids_text goods n (b ∷ bs) = bid_text goods n b ++ bids_text goods (suc n) bs

-- the text that is written for a file
abbrev pub layout : PlainFile → List ℕ
layout f = headers_text f.goods (length f.bids) f.dummy ++ bids_text f.goods 0 f.bids
