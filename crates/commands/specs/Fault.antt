-- What `cats fault` prints of a fault: a line with its place, and a line with what helps.
use Rattle.std.specs.Prelude.{ℕ, nat_lt, if◌then◌else◌, List, [], ◌∷◌, ◌++◌, length, take, codes, decimal}
use Rattle.std.specs.Option.{option_map_or}
use Rattle.cats_text.specs.Lines.{Word}
use Rattle.cats_text.specs.FaultPlaces.{PlainPlace}
use Rattle.cats_text.specs.declared.read_fault.Kind.{Kind}
use Rattle.cats_text.specs.declared.read_fault.Kind.TheVariants.{Header, NotANumber, TooLarge, ExtraBid, BidNumber}
use Rattle.cats_text.specs.declared.read_fault.Kind.TheVariants.{RepeatedNumber, TooFine, GoodRange, RepeatedGood}
use Rattle.cats_text.specs.declared.read_fault.Kind.TheVariants.{TwoDummies, EmptyBundle, NoEnd, AfterEnd, Missing}
use Rattle.cats_text.specs.declared.read_fault.Kind.TheVariants.{TooLong, Device, Memory}
use Rattle.commands.specs.Hints.{first_hint, rows_of, sentence}
use Rattle.commands.specs.KindNames.{name_of_kind}

-- the rule of a kind of fault, and a remedy
--
-- It has at most 100 bytes.
abbrev pub hint_of_kind : Kind → List ℕ
hint_of_kind Header =
    codes "header lines are `goods N`, `bids N` and `dummy N`, in this order; write `dummy 0` if there are none"
hint_of_kind NotANumber =
    codes "a number has digits alone, and a price digits alone or digits around one point"
hint_of_kind TooLarge = codes "prices go up to 10^12: divide all by one power of ten; `bids` and `dummy` go up to 65536"
hint_of_kind ExtraBid = codes "the line `bids N` says how many bid lines there are; correct it, or remove the line"
hint_of_kind BidNumber = codes "bids are numbered from 0, below the number that `bids` says; number the bids anew"
hint_of_kind RepeatedNumber = codes "each bid line has a number of its own; number the bids anew"
hint_of_kind TooFine = codes "a price has at most six places after the point; `--round` rounds it"
hint_of_kind GoodRange =
    codes "goods and then dummy goods count from 0; subtract 1 if yours count from 1, or correct `goods`"
hint_of_kind RepeatedGood = codes "a bid names each of its goods once; remove the good where it is repeated"
hint_of_kind TwoDummies = codes "these are two dummy goods; count goods from 0, or write a bid line for each bidder"
hint_of_kind EmptyBundle =
    codes "no good is before `#`; write the bid's goods, or remove the bid"
hint_of_kind NoEnd =
    codes "if the file ends here, it seems cut: compare its length with the original; `#` ends each bid"
hint_of_kind AfterEnd = codes "nothing is behind the `#` of a bid line; remove it, or write a line of its own for it"
hint_of_kind Missing =
    codes "the file seems cut: compare its length with the original; only if it is whole, correct `bids`"
hint_of_kind TooLong = codes "a file has at most 2147483648 bytes; remove comments, or bids that are not needed"
hint_of_kind Device = codes "a file is read to its end, and this read failed; give a file that can be read"
hint_of_kind Memory =
    codes "reading a file takes memory, which was refused; free some, or raise its limit, as by `ulimit -v`"

-- what helps at a place: the first hint that fits, or that of the kind
abbrev pub hint_of : PlainPlace → List ℕ
hint_of place = option_map_or sentence (first_hint (rows_of place.kind) place) (hint_of_kind place.kind)

-- the bytes of a word that are printed, at most 60
abbrev pub shown_bytes : Word → List ℕ
shown_bytes w = take 60 w

-- at an end there is no word
abbrev pub before_word : Word → List ℕ
before_word [] = []
before_word (b ∷ bs) = codes ": "

-- more bytes are in the word
abbrev pub behind_word : Word → List ℕ
behind_word w = if nat_lt 60 (length w) then codes ".." else []

-- what `cats fault` prints: the place at this column with its word, and what helps
abbrev pub place_text : List ℕ → List ℕ → ℕ → PlainPlace → List ℕ
place_text path word column place =
    path ++ codes ":" ++ decimal place.line ++ codes ":" ++ decimal column ++ codes ": " ++ name_of_kind place.kind
    ++ before_word place.text ++ word ++ behind_word place.text ++ codes "\n"
    ++ hint_of place ++ codes "\n"
