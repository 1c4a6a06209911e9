-- What the search for a fault's place does. It cuts off the first line of a text and the first word of a line, and asks
-- the parser for each word and each line's end.
use Rattle.std.specs.Prelude.{◌≡◌, ℕ, suc, ◌<◌, ◌==◌, if◌then◌else◌, List, [], ◌∷◌, length}
use Rattle.std.specs.Prelude.{Result, Ok, Err}
use Rattle.cats_text.specs.Lines.{Word, RawLine, raw_lines, blank_returns, line_words, is_significant}
use Rattle.cats_text.specs.FaultPlaces.{PlainPlace}
use Rattle.cats_text.specs.Views.{plain_place}
use Rattle.cats_text.specs.Keeps.{number_alone}
use Rattle.cats_text.specs.Internal.Machine.{summary}
use Rattle.cats_text.specs.Internal.Parsing.{Reading, word_read, line_read}
use Rattle.cats_text.specs.Internal.Progress.{Progress, progress, Stops}
use Rattle.cats_text.specs.declared.fault_place.FaultPlace.{FaultPlace}
use Rattle.cats_text.specs.declared.keep.BidCount.{BidCount}
use Rattle.cats_text.specs.declared.parser.Parser.{Parser}
use Rattle.cats_text.specs.declared.parser.Stage.TheVariants.{Bid}
use Rattle.cats_text.specs.declared.word.Word.{Word as Kept}

-- the first word of a line, and what is behind it
pub record IsFirstWord (line word behind : List ℕ) : Type 0 where
  pub words : line_words line ≡ word ∷ line_words behind
  pub within : length behind < length line

-- the same, and what the parser keeps of the word
pub record IsNextWord (line word behind : List ℕ) (kept : Kept) : Type 0 where
  pub first : IsFirstWord line word behind
  pub is : kept ≡ summary word

-- a text begins with a line of these words, and what is behind its LF
pub record IsFirstLine (text line behind : List ℕ) : Type 0 where
  pub raw : RawLine
  pub lines : raw_lines (blank_returns text) ≡ raw ∷ raw_lines (blank_returns behind)
  pub words : line_words raw.bytes ≡ line_words line
  pub within : length behind < length text

-- a line without a CR at its end
abbrev pub without_return : List ℕ → List ℕ
without_return [] = []
without_return (b ∷ []) = if b == 13 then [] else b ∷ []
without_return (b ∷ c ∷ cs) = b ∷ without_return (c ∷ cs)

-- ---- the parser

-- what is seen of a parser that counts the bids
abbrev pub seen : Parser BidCount → Progress
seen p = progress (λ _. number_alone) p

abbrev pub Judged : Type 0
Judged = Result Progress PlainPlace

abbrev pub judged_at : ℕ → ℕ → Word → Reading → Judged
judged_at line word text (Ok p) = Ok p
judged_at line word text (Err kind) = Err (record { line = line; word = word; text = text; kind = kind })

abbrev pub judged_then : Judged → (Progress → Judged) → Judged
judged_then (Ok p) f = f p
judged_then (Err place) f = Err place

-- the words from one with this number to the line's end, and the end
abbrev pub words_judged : ℕ → ℕ → List Word → Progress → Judged
words_judged line word [] p = judged_at line word [] (line_read p)
words_judged line word (w ∷ ws) p =
    judged_then (judged_at line word w (word_read p (summary w))) (words_judged line (suc word) ws)

abbrev pub line_judged : ℕ → List Word → Progress → Judged
line_judged line words p = if is_significant words then words_judged line 1 words p else Ok p

-- a call judged this, or lacked memory on a bid line
abbrev pub Judges : (Progress → Judged) → Progress → Progress → Result (Unit {0}) FaultPlace → Type 0
Judges step old new (Ok u) = step old ≡ Ok new
Judges step old new (Err place) = Stops place.kind (old.stage ≡ Bid) (step old ≡ Err (plain_place place))
