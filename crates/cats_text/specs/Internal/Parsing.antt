-- The steps of the parser. They are what a word, a line's end and the input's end do to what it keeps.
use Rattle.std.specs.Prelude.{ℕ, ◌+◌, ◌-◌, ◌*◌, ◌^◌, ◌==◌, nat_lt, nat_le, min, Bool, true, false, ◌&&◌, ◌||◌}
use Rattle.std.specs.Prelude.{if◌then◌else◌, [], ◌∷◌, ◌++◌, length, slice_get, Option, Some, None, Result, Ok, Err}
use Rattle.cats_text.specs.Numbers.{GREATEST_PRICE}
use Rattle.goods_set.specs.Bundles.{has_good}
use Rattle.bid_file.specs.Files.{PlainBid}
use Rattle.cats_text.specs.FileLines.{rising_of, put_slot}
use Rattle.cats_text.specs.Internal.Machine.{keyword_text}
use Rattle.cats_text.specs.Internal.Progress.{Progress}
use Rattle.cats_text.specs.Internal.Kept.{is_some_bid}
use Rattle.cats_text.specs.declared.read_fault.Kind.{Kind}
use Rattle.cats_text.specs.declared.read_fault.Kind.TheVariants as kinds
use Rattle.cats_text.specs.declared.word.Keyword.{Keyword}
use Rattle.cats_text.specs.declared.word.Keyword.TheVariants as keywords
use Rattle.cats_text.specs.declared.word.Word.{Word}
use Rattle.cats_text.specs.declared.word.Word.TheVariants as words
use Rattle.cats_text.specs.declared.parser.Stage.{Stage}
use Rattle.cats_text.specs.declared.parser.Stage.TheVariants.{Goods, Bids, Dummy, Bid}
use Rattle.cats_text.specs.declared.parser.Column.{Column}
use Rattle.cats_text.specs.declared.parser.Column.TheVariants.{First, Second, Later, Ended}
use Rattle.bid_file.specs.declared.limits.TheConstants.{MAX_GOODS, MAX_BIDS, MAX_DUMMY}

abbrev pub Reading : Type 0
Reading = Result Progress Kind

-- before the first line, where this is kept of each bid
abbrev pub start : (PlainBid → PlainBid) → Progress
start keep = record {
  keep = keep;
  stage = Goods;
  column = First;
  header = record { goods = 0; bids = 0; dummy = 0 };
  due = 0;
  slots = [];
  draft = record { number = 0; price = 0; dummy = None };
  goods = [];
}

-- ---- header lines

abbrev pub is_same_keyword : Keyword → Keyword → Bool
is_same_keyword keywords.Goods keywords.Goods = true
is_same_keyword keywords.Bids keywords.Bids = true
is_same_keyword keywords.Dummy keywords.Dummy = true
is_same_keyword _ _ = false

abbrev pub keyword_read : Progress → Keyword → Word → Reading
keyword_read p k (words.Keyword j n) = if is_same_keyword j k && (n == length (keyword_text k))
    then Ok (record p { column = Second }) else Err kinds.Header
keyword_read p k _ = Err kinds.Header

abbrev pub header_number_read : Progress → Word → Reading
header_number_read p (words.Number n) = elim p.stage [
  | Goods ↦ if nat_lt MAX_GOODS n then Err kinds.TooLarge
      else Ok (record p { column = Later; header = record p.header { goods = n } })
  | Bids ↦ if nat_lt MAX_BIDS n then Err kinds.TooLarge
      else Ok (record p { column = Later; header = record p.header { bids = n }; due = n })
  | Dummy ↦ if nat_lt MAX_DUMMY n then Err kinds.TooLarge
      else Ok (record p { column = Later; header = record p.header { dummy = n } })
  | Bid ↦ Err kinds.Header
]
header_number_read p _ = Err kinds.NotANumber

-- ---- bid lines

abbrev pub number_read : Progress → Word → Reading
number_read p (words.Number n) =
    if p.due == 0 then Err kinds.ExtraBid
    else if nat_le p.header.bids n then Err kinds.BidNumber
    else if is_some_bid (slice_get p.slots n) then Err kinds.RepeatedNumber
    else Ok (record p { column = Second; draft = record { number = n; price = 0; dummy = None } })
number_read p _ = Err kinds.NotANumber

-- the value in millionths of so many whole units and millionths, and perhaps finer places
abbrev pub price_parts : ℕ → ℕ → Bool → Result ℕ Kind
price_parts whole millionths fine =
    if nat_lt GREATEST_PRICE whole || ((whole == GREATEST_PRICE) && (fine || nat_lt 0 millionths))
    then Err kinds.TooLarge
    else if fine then Err kinds.TooFine
    else Ok (min (whole * 1000000 + millionths) (2 ^ 64 - 1))

abbrev pub with_price : Progress → Result ℕ Kind → Reading
with_price p (Ok millionths) = Ok (record p { column = Later; draft = record p.draft { price = millionths } })
with_price p (Err kind) = Err kind

abbrev pub price_read : Progress → Word → Reading
price_read p (words.Number n) = with_price p (price_parts n 0 false)
price_read p (words.Decimal d) = if d.decimals == 0 then Err kinds.NotANumber
    else with_price p (price_parts d.whole d.millionths d.fine)
price_read p _ = Err kinds.NotANumber

abbrev pub dummy_read : Progress → Option ℕ → ℕ → Reading
dummy_read p None d = Ok (record p { draft = record p.draft { dummy = Some d } })
dummy_read p (Some e) d = if e == d then Err kinds.RepeatedGood else Err kinds.TwoDummies

abbrev pub good_read : Progress → ℕ → Reading
good_read p n =
    if nat_le (p.header.goods + p.header.dummy) n then Err kinds.GoodRange
    else if nat_lt n p.header.goods then (if has_good p.goods n then Err kinds.RepeatedGood
    else Ok (record p { goods = p.goods ++ n ∷ [] }))
    else dummy_read p p.draft.dummy (n - p.header.goods)

abbrev pub end_read : Progress → Reading
end_read p = if length p.goods == 0 then Err kinds.EmptyBundle else Ok (record p { column = Ended })

abbrev pub good_or_end_read : Progress → Word → Reading
good_or_end_read p (words.Number n) = good_read p n
good_or_end_read p words.End = end_read p
good_or_end_read p _ = Err kinds.NotANumber

-- ---- a word, by its column

abbrev pub read_at : Column → Stage → Progress → Word → Reading
read_at column stage p w = elim column [
  | First ↦ elim stage [
    | Goods ↦ keyword_read p keywords.Goods w
    | Bids ↦ keyword_read p keywords.Bids w
    | Dummy ↦ keyword_read p keywords.Dummy w
    | Bid ↦ number_read p w
  ]
  | Second ↦ elim stage [
    | Goods ↦ header_number_read p w
    | Bids ↦ header_number_read p w
    | Dummy ↦ header_number_read p w
    | Bid ↦ price_read p w
  ]
  | Later ↦ elim stage [
    | Goods ↦ Err kinds.Header
    | Bids ↦ Err kinds.Header
    | Dummy ↦ Err kinds.Header
    | Bid ↦ good_or_end_read p w
  ]
  | Ended ↦ Err kinds.AfterEnd
]

abbrev pub word_read : Progress → Word → Reading
word_read p w = read_at p.column p.stage p w

-- ---- the end of a line

abbrev pub drafted : Progress → PlainBid
drafted p = record { price = p.draft.price; goods = rising_of p.goods; dummy = p.draft.dummy }

abbrev pub with_bid : Progress → Progress
with_bid p = record p {
  column = First;
  due = p.due - 1;
  slots = put_slot p.slots p.draft.number (p.keep (drafted p));
  goods = [];
}

abbrev pub header_line_at : Column → Progress → Stage → Reading
header_line_at column p next = elim column [
  | First ↦ Err kinds.Header
  | Second ↦ Err kinds.Header
  | Later ↦ Ok (record p { column = First; stage = next })
  | Ended ↦ Err kinds.Header
]

abbrev pub header_line_read : Progress → Stage → Reading
header_line_read p next = header_line_at p.column p next

abbrev pub bid_at : Column → Progress → Reading
bid_at column p = elim column [
  | First ↦ Err kinds.NoEnd
  | Second ↦ Err kinds.NoEnd
  | Later ↦ Err kinds.NoEnd
  | Ended ↦ Ok (with_bid p)
]

abbrev pub bid_read : Progress → Reading
bid_read p = bid_at p.column p

-- `#` where a good or `#` is due, and the end of the line behind it
abbrev pub bid_closed : Progress → Reading
bid_closed p = if length p.goods == 0 then Err kinds.EmptyBundle else Ok (with_bid p)

abbrev pub line_at : Column → Stage → Progress → Reading
line_at column stage p = elim stage [
  | Goods ↦ header_line_at column p Bids
  | Bids ↦ header_line_at column p Dummy
  | Dummy ↦ header_line_at column p Bid
  | Bid ↦ bid_at column p
]

abbrev pub line_read : Progress → Reading
line_read p = line_at p.column p.stage p

-- ---- the end of the input

abbrev pub is_due : Progress → Bool
is_due p = elim p.stage [ Goods ↦ true | Bids ↦ true | Dummy ↦ true | Bid ↦ nat_lt 0 p.due ]
