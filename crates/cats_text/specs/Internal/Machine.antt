-- The reader as a machine over bytes. Each function is what a call does to it. Private to the reader: its contracts
-- speak of the definitions over whole texts, to which the proofs tie it.
use Rattle.std.specs.Prelude.{ℕ, ◌+◌, ◌-◌, ◌*◌, ◌^◌, ◌==◌, nat_lt, min, false, not, ◌&&◌, ◌||◌, if◌then◌else◌, List, []}
use Rattle.std.specs.Prelude.{◌∷◌, fold, length, get_or, codes}
use Rattle.cats_text.specs.Numbers.{is_digit}
use Rattle.cats_text.specs.declared.word.Keyword.{Keyword as Key}
use Rattle.cats_text.specs.declared.word.Keyword.TheVariants.{Goods, Bids, Dummy}
use Rattle.cats_text.specs.declared.word.Word.{Word}
use Rattle.cats_text.specs.declared.price.Decimal.{Decimal}
use Rattle.cats_text.specs.declared.word.Word.TheVariants.{Keyword, Number, Decimal as Fraction, End, Other}
use Rattle.cats_text.specs.declared.word.TheConstants.{HELD}

-- ---- words

-- the keywords of the header lines
abbrev pub keyword_text : Key → List ℕ
keyword_text Goods = codes "goods"
keyword_text Bids = codes "bids"
keyword_text Dummy = codes "dummy"

abbrev pub word_from : ℕ → Word
word_from b = if is_digit b then Number (b - 48) else if b == 35 then End else if b == 103 then Keyword Goods 1
    else if b == 98 then Keyword Bids 1 else if b == 100 then Keyword Dummy 1 else Other

-- what a place counts, in millionths, with so many before it behind the point
abbrev pub place_value_of : ℕ → ℕ
place_value_of n = if n == 0 then 100000 else if n == 1 then 10000 else if n == 2 then 1000 else if n == 3 then 100
    else if n == 4 then 10 else if n == 5 then 1 else 0

abbrev pub decimal_with : Decimal → ℕ → Decimal
decimal_with d digit =
    if nat_lt d.decimals 6 then record d {
      millionths = min (d.millionths + digit * place_value_of d.decimals) (2 ^ 64 - 1);
      decimals = d.decimals + 1;
    }
    else record d { fine = d.fine || not (digit == 0) }

abbrev pub with_digit : ℕ → ℕ → ℕ
with_digit n digit = if nat_lt n HELD then n * 10 + digit else n

abbrev pub word_with : Word → ℕ → Word
word_with (Number n) b =
    if is_digit b then Number (with_digit n (b - 48))
    else if b == 46 then Fraction (record { whole = n; millionths = 0; decimals = 0; fine = false }) else Other
word_with (Fraction d) b = if is_digit b then Fraction (decimal_with d (b - 48)) else Other
word_with (Keyword k n) b = if nat_lt n (length (keyword_text k)) && (get_or (keyword_text k) n 0 == b)
    then Keyword k (n + 1) else Other
word_with End b = Other
word_with Other b = Other

-- what the reader keeps of a word, which is not empty
abbrev pub summary : List ℕ → Word
summary [] = Other
summary (b ∷ bs) = fold word_with (word_from b) bs
