-- The first fault of a text. Its places are, line by line, the words of its significant lines from the left and after
-- them the line's end; last comes the end of the input. At each place the first test that holds is the fault there.
use Rattle.std.specs.Prelude.{◌≡◌, ℕ, suc, ◌+◌, ◌<◌, ◌==◌, nat_lt, nat_le, Bool, true, false, not, ◌&&◌, ◌||◌}
use Rattle.std.specs.Prelude.{if◌then◌else◌, List, [], ◌∷◌, ◌++◌, length, drop, Option, Some, None, option_map, codes}
use Rattle.std.specs.Option.{option_or}
use Rattle.std.specs.List.{list_any}
use Rattle.std.specs.Str.{bytes_eq}
use Rattle.cats_text.specs.Lines.{Word, Line, is_blank, significant_lines, line_count}
use Rattle.cats_text.specs.Numbers.{is_number, number_of, is_price, is_too_large, is_too_fine}
use Rattle.cats_text.specs.Grammar.{line_number}
use Rattle.cats_text.specs.declared.read_fault.Kind.{Kind}
use Rattle.cats_text.specs.declared.read_fault.Kind.TheVariants.{Header, NotANumber, TooLarge, ExtraBid, BidNumber}
use Rattle.cats_text.specs.declared.read_fault.Kind.TheVariants.{RepeatedNumber, TooFine, GoodRange, RepeatedGood}
use Rattle.cats_text.specs.declared.read_fault.Kind.TheVariants.{TwoDummies, EmptyBundle, NoEnd, AfterEnd, Missing}
use Rattle.cats_text.specs.declared.read_fault.Kind.TheVariants.{TooLong}
use Rattle.cats_text.specs.declared.read_fault.Kind.TheVariants.{Device, Memory}
use Rattle.cats_text.specs.declared.read_fault.ReadFault.{ReadFault}
use Rattle.bid_file.specs.declared.limits.TheConstants.{MAX_GOODS, MAX_BIDS, MAX_DUMMY}

-- this kind if the test holds, and else what the later tests say
abbrev pub when : Bool → Kind → Option Kind → Option Kind
when true kind later = Some kind
when false kind later = later

-- ---- header lines: a keyword and a number

-- the words before it in its line, and the word
abbrev pub header_word : Word → ℕ → List Word → Word → Option Kind
header_word keyword limit [] w = when (not (bytes_eq w keyword)) Header None
header_word keyword limit (_ ∷ []) w =
    when (not (is_number w)) NotANumber (when (nat_lt limit (number_of w)) TooLarge None)
header_word keyword limit (_ ∷ _ ∷ _) w = Some Header

abbrev pub header_end : List Word → Option Kind
header_end [] = Some Header
header_end (_ ∷ []) = Some Header
header_end (_ ∷ _ ∷ _) = None

-- the number that a header line gives
abbrev pub header_value : List Word → ℕ
header_value [] = 0
header_value (_ ∷ []) = 0
header_value (_ ∷ w ∷ ws) = if is_number w then number_of w else 0

-- ---- bid lines: a number, a price, goods, and `#`

pub record Bounds : Type 0 where
  pub goods : ℕ
  pub bids : ℕ
  pub dummy : ℕ

-- the bid lines before it
abbrev pub number_word : Bounds → List (List Word) → Word → Option Kind
number_word h lines w =
    when (not (is_number w)) NotANumber
    (when (nat_le h.bids (length lines)) ExtraBid
    (when (nat_le h.bids (number_of w)) BidNumber
    (when (list_any (λ l. line_number l == number_of w) lines) RepeatedNumber None)))

-- the fault of a word as a price: none, not a price, too large or too fine
abbrev pub price_word : Word → Option Kind
price_word w = when (not (is_price w)) NotANumber (when (is_too_large w) TooLarge (when (is_too_fine w) TooFine None))

abbrev pub is_end : Word → Bool
is_end w = bytes_eq w (codes "#")

abbrev pub has_end : List Word → Bool
has_end ws = list_any is_end ws

-- the words between the price and it, and the word
abbrev pub good_word : Bounds → List Word → Word → Option Kind
good_word h before w =
    when (has_end before) AfterEnd
    (if is_end w then when (not (list_any (λ g. nat_lt (number_of g) h.goods) before)) EmptyBundle None
    else when (not (is_number w)) NotANumber
    (when (nat_le (h.goods + h.dummy) (number_of w)) GoodRange
    (when (list_any (λ g. number_of g == number_of w) before) RepeatedGood
    (when (nat_le h.goods (number_of w) && list_any (λ g. nat_le h.goods (number_of g)) before) TwoDummies None))))

abbrev pub bid_word : Bounds → List (List Word) → List Word → Word → Option Kind
bid_word h lines [] w = number_word h lines w
bid_word h lines (_ ∷ []) w = price_word w
bid_word h lines (_ ∷ _ ∷ before) w = good_word h before w

abbrev pub bid_end : List Word → Option Kind
bid_end words = when (not (has_end (drop 2 words))) NoEnd None

-- ---- all places

abbrev pub bounds_of : List Word → List Word → List Word → Bounds
bounds_of g b d = record { goods = header_value g; bids = header_value b; dummy = header_value d }

-- the significant lines before it, the words before it in its line, and the word
abbrev pub word_fault : List (List Word) → List Word → Word → Option Kind
word_fault [] before w = header_word (codes "goods") MAX_GOODS before w
word_fault (_ ∷ []) before w = header_word (codes "bids") MAX_BIDS before w
word_fault (_ ∷ _ ∷ []) before w = header_word (codes "dummy") MAX_DUMMY before w
word_fault (g ∷ b ∷ d ∷ lines) before w = bid_word (bounds_of g b d) lines before w

-- the end of a line of these words
abbrev pub end_fault : List (List Word) → List Word → Option Kind
end_fault [] words = header_end words
end_fault (_ ∷ []) words = header_end words
end_fault (_ ∷ _ ∷ []) words = header_end words
end_fault (g ∷ b ∷ d ∷ lines) words = bid_end words

-- the words from here to the line's end
abbrev pub words_fault : List (List Word) → List Word → List Word → Option Kind
words_fault lines before [] = None
words_fault lines before (w ∷ ws) = option_or (word_fault lines before w) (words_fault lines (before ++ w ∷ []) ws)

-- a line is still due
abbrev pub is_line_due : List (List Word) → Bool
is_line_due [] = true
is_line_due (_ ∷ []) = true
is_line_due (_ ∷ _ ∷ []) = true
is_line_due (g ∷ b ∷ d ∷ lines) = nat_lt (length lines) (header_value b)

-- a fault of this kind at this line
abbrev pub fault_at : ℕ → Kind → ReadFault
fault_at line kind = record { line = line; kind = kind }

-- the kinds of a text's own faults
abbrev pub is_text_kind : Kind → Bool
is_text_kind TooLong = false
is_text_kind Device = false
is_text_kind Memory = false
is_text_kind kind = true

-- a fault of the text itself, at one of its lines or behind the last
pub record IsOfText (e : ReadFault) : Type 0 where
  pub kind : is_text_kind e.kind ≡ true
  pub line : 0 < e.line

-- The places of a line; its end is judged where an LF is there, or where the input is whole.
abbrev pub line_fault : Bool → List (List Word) → Line → Option ReadFault
line_fault whole lines l =
    option_map (fault_at l.number)
    (option_or (words_fault lines [] l.words) (if l.ended || whole then end_fault lines l.words else None))

-- The places from a line on, the last line's number being known; the end of the input is judged where the input is
-- whole.
abbrev pub lines_fault : Bool → ℕ → List (List Word) → List Line → Option ReadFault
lines_fault whole count lines [] = if whole && is_line_due lines then Some (fault_at (suc count) Missing) else None
lines_fault whole count lines (l ∷ ls) =
    option_or (line_fault whole lines l) (lines_fault whole count (lines ++ l.words ∷ []) ls)

-- a text's first fault; a text has one, or spells one file (law)
abbrev pub first_fault : List ℕ → Option ReadFault
first_fault text = lines_fault true (line_count text) [] (significant_lines text)

-- ---- what is complete

-- a byte that ends a word or a line, whatever follows it
abbrev pub is_final : ℕ → Bool
is_final b = is_blank b || (b == 10)

abbrev pub keep_final : ℕ → List ℕ → List ℕ
keep_final b [] = if is_final b then b ∷ [] else []
keep_final b (c ∷ cs) = b ∷ c ∷ cs

-- the bytes up to the last space, tab or LF
abbrev pub up_to_final : List ℕ → List ℕ
up_to_final [] = []
up_to_final (b ∷ bs) = keep_final b (up_to_final bs)

-- the first fault that these bytes have, whatever follows them
--
-- It is the first one up to their last space, tab or LF, but not at the end of a line without LF, nor at the end of the
-- input.
abbrev pub complete_fault : List ℕ → Option ReadFault
complete_fault bytes = lines_fault false 0 [] (significant_lines (up_to_final bytes))

-- whether a fourth significant line has begun; before it no memory is refused
--
-- It is the first one that a reader keeps anything of.
abbrev pub has_bid_line : List ℕ → Bool
has_bid_line text = nat_lt 3 (length (significant_lines text))
