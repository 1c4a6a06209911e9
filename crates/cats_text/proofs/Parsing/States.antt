-- What the parser keeps, as a function of the lines before and the words before in a line.
use Rattle.cats_text.proofs.Common.{◌≡◌, ℕ, ◌-◌, ◌≤◌, Bool, true, false, leb, List, [], ◌∷◌, ◌++◌, length, drop, map, fold, Option, Some, None, Ok, Err, find}
use Rattle.cats_text.proofs.Common.{Word, number_of, price_of, has_good, line_number, header_value, has_end, word_fault, end_fault, before_end, real_goods}
use Rattle.cats_text.proofs.Common.{dummy_in, bid_of, put_slot, PlainBid, Progress, Reading, Stage, Goods, Bids, Dummy, Bid, Column, First, Second, Later}
use Rattle.cats_text.proofs.Common.{Ended, Draft, Header, MAX_GOODS, MAX_BIDS, MAX_DUMMY, arith, common_steps}

abbrev pub stage_of : List (List Word) → Stage
stage_of [] = Goods
stage_of (_ ∷ []) = Bids
stage_of (_ ∷ _ ∷ []) = Dummy
stage_of (_ ∷ _ ∷ _ ∷ _) = Bid

abbrev pub header_column : List Word → Column
header_column [] = First
header_column (_ ∷ []) = Second
header_column (_ ∷ _ ∷ _) = Later

abbrev pub ended_column : Bool → Column
ended_column true = Ended
ended_column false = Later

abbrev pub bid_column : List Word → Column
bid_column [] = First
bid_column (_ ∷ []) = Second
bid_column (_ ∷ _ ∷ gs) = ended_column (has_end gs)

abbrev pub column_of : List (List Word) → List Word → Column
column_of (_ ∷ _ ∷ _ ∷ _) words = bid_column words
column_of _ words = header_column words

abbrev pub values_of : List (List Word) → List Word → Header
values_of [] words = record { goods = header_value words; bids = 0; dummy = 0 }
values_of (g ∷ []) words = record { goods = header_value g; bids = header_value words; dummy = 0 }
values_of (g ∷ b ∷ []) words = record { goods = header_value g; bids = header_value b; dummy = header_value words }
values_of (g ∷ b ∷ d ∷ _) words = record { goods = header_value g; bids = header_value b; dummy = header_value d }

-- no two of the values are dummies, unless they are equal
abbrev pub HasOneDummy : ℕ → List ℕ → Type 0
HasOneDummy G vs = (v : ℕ) → leb G v ≡ true → has_good vs v ≡ true → find (λ x. leb G x) vs ≡ Some v

pub record IsDraft (G : ℕ) (n w : Word) (gs : List Word) (p : Progress) : Type 0 where
  pub number : p.draft.number ≡ number_of n
  pub price : p.draft.price ≡ price_of w
  pub dummy : p.draft.dummy ≡ dummy_in G (before_end gs)
  pub goods : p.goods ≡ real_goods G (before_end gs)
  pub one : HasOneDummy G (map number_of (before_end gs))

abbrev pub BidDraft : ℕ → List Word → Progress → Type 0
BidDraft G [] p = p.goods ≡ []
BidDraft G (n ∷ []) p = (p.draft.number ≡ number_of n) × (p.draft.dummy ≡ None) × (p.goods ≡ [])
BidDraft G (n ∷ w ∷ gs) p = IsDraft G n w gs p

abbrev pub DraftAt : List (List Word) → List Word → Progress → Type 0
DraftAt (_ ∷ _ ∷ _ ∷ _) words p = BidDraft p.header.goods words p
DraftAt _ words p = p.goods ≡ []

-- what is kept of the bids of lines, each at its number
abbrev pub kept_slots : (PlainBid → PlainBid) → ℕ → List (List Word) → List (Option PlainBid)
kept_slots keep G lines = fold (λ slots l. put_slot slots (line_number l) (keep (bid_of G l))) [] lines

-- p is what the parser keeps behind these lines and, in the next, these words
pub record IsAt (lines : List (List Word)) (words : List Word) (p : Progress) : Type 0 where
  pub stage : p.stage ≡ stage_of lines
  pub column : p.column ≡ column_of lines words
  pub header : p.header ≡ values_of lines words
  pub due : p.due ≡ p.header.bids - length (drop 3 lines)
  pub slots : p.slots ≡ kept_slots p.keep p.header.goods (drop 3 lines)
  pub draft : DraftAt lines words p
  pub goods : p.header.goods ≤ MAX_GOODS
  pub bids : p.header.bids ≤ MAX_BIDS
  pub dummy : p.header.dummy ≤ MAX_DUMMY

-- the same line, with other words and another draft
pub with_words : (lines : List (List Word)) (words more : List Word) (p : Progress) (column : Column) (draft : Draft) (goods : List ℕ) → IsAt lines words p
    → column ≡ column_of lines more → values_of lines words ≡ values_of lines more
    → DraftAt lines more (record p { column = column; draft = draft; goods = goods })
    → IsAt lines more (record p { column = column; draft = draft; goods = goods })
with_words lines words more p column draft goods at c v d = grind (arith, common_steps)

-- what a word does: it is a fault, or it is behind the words
abbrev pub WordFollows : List (List Word) → List Word → Word → Reading → Type 0
WordFollows lines words w (Ok q) = (word_fault lines words w ≡ None) × IsAt lines (words ++ w ∷ []) q
WordFollows lines words w (Err kind) = word_fault lines words w ≡ Some kind

-- what a line's end does
abbrev pub LineFollows : List (List Word) → List Word → Reading → Type 0
LineFollows lines words (Ok q) = (end_fault lines words ≡ None) × IsAt (lines ++ words ∷ []) [] q
LineFollows lines words (Err kind) = end_fault lines words ≡ Some kind
