-- The steps of the scanner. They are what a byte and the input's end do to what it keeps.
use Rattle.std.specs.Prelude.{◌≡◌, ℕ, suc, ◌==◌, Bool, true, false, if◌then◌else◌, List, [], ◌∷◌, ◌⊎◌, IsOkAnd, Result}
use Rattle.std.specs.Prelude.{Ok, Err, length, ◌<◌, ◌≤◌, drop}
use Rattle.cats_text.specs.Lines.{is_blank}
use Rattle.cats_text.specs.Internal.Returns.{settled, waits}
use Rattle.cats_text.specs.Faults.{fault_at}
use Rattle.bid_file.specs.Files.{PlainBid}
use Rattle.cats_text.specs.FileLines.{filled}
use Rattle.cats_text.specs.Internal.Machine.{word_from, word_with}
use Rattle.cats_text.specs.Internal.Progress.{Progress, progress, Stops}
use Rattle.cats_text.specs.Internal.Parsing.{Reading, start, word_read, line_read, is_due}
use Rattle.cats_text.specs.declared.read_fault.Kind.{Kind}
use Rattle.cats_text.specs.declared.read_fault.Kind.TheVariants.{Missing, Memory}
use Rattle.cats_text.specs.declared.read_fault.ReadFault.{ReadFault}
use Rattle.cats_text.specs.declared.parser.Header.{Header}
use Rattle.cats_text.specs.declared.parser.Stage.TheVariants.{Bid}
use Rattle.cats_text.specs.declared.parser.Column.TheVariants.{Later}
use Rattle.cats_text.specs.declared.scanner.Mode.{Mode}
use Rattle.cats_text.specs.declared.scanner.Mode.TheVariants.{Start, Blank, Comment, Between, Inside}
use Rattle.cats_text.specs.declared.scanner.Scanner.{Scanner}

pub record State : Type 0 where
  pub mode : Mode
  pub line : ℕ
  pub progress : Progress

-- what is seen of a scanner
abbrev pub state : {K : Type 0} → (PlainBid → PlainBid) → Scanner K → State
state keep s = record { mode = s.mode; line = s.line; progress = progress keep s.parser }

abbrev pub first_state : (PlainBid → PlainBid) → State
first_state keep = record { mode = Start; line = 1; progress = start keep }

abbrev pub Scan : Type 0
Scan = Result State ReadFault

abbrev pub and_then : Scan → (State → Scan) → Scan
and_then (Ok s) f = f s
and_then (Err e) f = Err e

-- ---- a byte

-- no word has begun, and no comment
abbrev pub is_before_word : Mode → Bool
is_before_word Start = true
is_before_word Blank = true
is_before_word Comment = false
is_before_word Between = true
is_before_word (Inside w) = false

-- a good of a bid line is due, or its `#`
pub record IsGoodDue (s : State) : Type 0 where
  pub mode : s.mode ≡ Between
  pub stage : s.progress.stage ≡ Bid
  pub column : s.progress.column ≡ Later

abbrev pub letter_mode : Mode → ℕ → Mode
letter_mode Start b = if b == 37 then Comment else Inside (word_from b)
letter_mode Blank b = if b == 37 then Comment else Inside (word_from b)
letter_mode Comment b = Comment
letter_mode Between b = Inside (word_from b)
letter_mode (Inside w) b = Inside (word_with w b)

abbrev pub with_reading : State → Mode → Reading → Scan
with_reading s m (Ok p) = Ok (record s { mode = m; progress = p })
with_reading s m (Err kind) = Err (fault_at s.line kind)

abbrev pub blank_step_at : Mode → State → Scan
blank_step_at Start s = Ok (record s { mode = Blank })
blank_step_at Blank s = Ok s
blank_step_at Comment s = Ok s
blank_step_at Between s = Ok s
blank_step_at (Inside w) s = with_reading s Between (word_read s.progress w)

-- a blank, or the end of a line, after which no word goes on
abbrev pub blank_step : State → Scan
blank_step s = blank_step_at s.mode s

abbrev pub words_step_at : Mode → State → Scan
words_step_at Start s = Ok s
words_step_at Blank s = Ok s
words_step_at Comment s = Ok s
words_step_at Between s = with_reading s Between (line_read s.progress)
words_step_at (Inside w) s = Ok s

-- the end of the words of a line
abbrev pub words_step : State → Scan
words_step s = words_step_at s.mode s

abbrev pub next_line : State → Scan
next_line s = Ok (record s { mode = Start; line = suc s.line })

abbrev pub line_step : State → Scan
line_step s = and_then (and_then (blank_step s) words_step) next_line

abbrev pub byte_step : State → ℕ → Scan
byte_step s b = if b == 10 then line_step s else if is_blank b then blank_step s
    else Ok (record s { mode = letter_mode s.mode b })

abbrev pub scan : State → List ℕ → Scan
scan s [] = Ok s
scan s (b ∷ bs) = and_then (byte_step s b) (λ t. scan t bs)

-- ---- the end of the input

-- the number of the line behind the last
abbrev pub line_behind : State → ℕ
line_behind s = elim s.mode [
  | Start ↦ s.line
  | Blank ↦ suc s.line
  | Comment ↦ suc s.line
  | Between ↦ suc s.line
  | Inside w ↦ suc s.line
]

abbrev pub missing_step : ℕ → State → Scan
missing_step behind s = if is_due s.progress then Err (fault_at behind Missing) else Ok s

abbrev pub end_step : State → Scan
end_step s = and_then (and_then (blank_step s) words_step) (missing_step (line_behind s))

-- a CR that waits is a blank at the end
abbrev pub end_of : Bool → State → Scan
end_of true s = and_then (byte_step s 32) end_step
end_of false s = end_step s

-- ---- what the code's calls give

-- a call did this step of the machine, a fault being on the line where it stopped, or lacked memory where it needs some
abbrev pub Steps : (State → Type 0) → (State → Scan) → State → State → Result (Unit {0}) Kind → Type 0
Steps Needs step old new (Ok u) = step old ≡ Ok new
Steps Needs step old new (Err kind) = Stops kind (Needs old) (step old ≡ Err (fault_at new.line kind))

abbrev pub IsInLine : Mode → Type 0
IsInLine Start = ⊥
IsInLine Blank = ⊥
IsInLine Comment = ⊥
IsInLine Between = Unit {0}
IsInLine (Inside w) = Unit {0}

-- in a bid line
abbrev pub IsInBidLine : State → Type 0
IsInBidLine s = (s.progress.stage ≡ Bid) × IsInLine s.mode

-- a bid line is in the bytes
abbrev pub MeetsBidLine : State → List ℕ → Type 0
MeetsBidLine s [] = IsInBidLine s
MeetsBidLine s (b ∷ bs) = IsInBidLine s ⊎ IsOkAnd (byte_step s b) (λ t. MeetsBidLine t bs)

-- a call scanned all these bytes
abbrev pub Scans : List ℕ → State → State → Result (Unit {0}) Kind → Type 0
Scans bytes = Steps (λ s. MeetsBidLine s bytes) (λ s. scan s bytes)

-- the header lines, and what is kept of the bids, at the end of the input
abbrev pub ArePartsOf : {K : Type 0} → (PlainBid → PlainBid) → (K → List PlainBid) → Header × K → Scan → Type 0
ArePartsOf keep bids parts (Ok s) =
    (parts.0 ≡ s.progress.header) × (bids parts.1 ≡ filled s.progress.slots) × (s.progress.keep ≡ keep)
ArePartsOf keep bids parts (Err e) = ⊥

-- bids came
abbrev pub HasBids : Scan → Type 0
HasBids (Ok s) = 0 < length s.progress.slots
HasBids (Err e) = ⊥

-- a call at the end of the input gave what the machine gives, or lacked memory in a bid line or for bids that came
abbrev pub Finishes : {K : Type 0} → (PlainBid → PlainBid) → (K → List PlainBid) → Bool → State
    → Result (Header × K) ReadFault → Type 0
Finishes keep bids waiting s (Ok parts) = ArePartsOf keep bids parts (end_of waiting s)
Finishes keep bids waiting s (Err e) = (end_of waiting s ≡ Err e)
    ⊎ ((e ≡ fault_at 0 Memory) × (IsInBidLine s ⊎ HasBids (end_of waiting s)))

-- What is left of a scan does to the state reached what the whole does to the first, and a CR waits at the end.
pub record IsScanned (s0 s : State) (waiting : Bool) (bytes rest : List ℕ) : Type 0 where
  pub steps : scan s (settled rest) ≡ scan s0 (settled bytes)
  pub needs : MeetsBidLine s (settled rest) → MeetsBidLine s0 (settled bytes)
  pub last : 0 < length rest → waits rest ≡ waits bytes
  pub going : 0 < length rest → waiting ≡ false
  pub ended : rest ≡ [] → waiting ≡ waits bytes

-- a call scanned so many of the bytes, or stopped at what the machine says of them, or lacked memory in a bid line
abbrev pub ScansTo : State → State → Bool → List ℕ → Result ℕ Kind → Type 0
ScansTo s0 s waiting bytes (Ok count) = IsScanned s0 s waiting bytes (drop count bytes) × (count ≤ length bytes)
ScansTo s0 s waiting bytes (Err kind) =
    Stops kind (MeetsBidLine s0 (settled bytes)) (scan s0 (settled bytes) ≡ Err (fault_at s.line kind))
