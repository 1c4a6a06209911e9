-- The place of the first fault of a text: its line, and the number and the bytes of the word that has it. The places
-- are gone through in the order of `Faults`, by its tests.
use Rattle.std.specs.Prelude.{ℕ, suc, if◌then◌else◌, List, [], ◌∷◌, ◌++◌, length, Option, Some, None, option_map}
use Rattle.std.specs.Option.{option_or}
use Rattle.cats_text.specs.Lines.{Word, Line, significant_lines, line_count}
use Rattle.cats_text.specs.Faults.{word_fault, end_fault, is_line_due, fault_at}
use Rattle.cats_text.specs.declared.read_fault.Kind.{Kind}
use Rattle.cats_text.specs.declared.read_fault.Kind.TheVariants.{Missing}
use Rattle.cats_text.specs.declared.read_fault.ReadFault.{ReadFault}

-- the place of a fault: its line, the number and the bytes of its word, and its kind
--
-- Lines and the words of a line are counted from 1. At the end of a line or of the input the place is behind the last
-- word, and the text is empty.
pub record PlainPlace : Type 0 where
  pub line : ℕ
  pub word : ℕ
  pub text : Word
  pub kind : Kind

-- the words before it in its line
abbrev pub place_behind : ℕ → List Word → Word → Kind → PlainPlace
place_behind line before text kind = record { line = line; word = suc (length before); text = text; kind = kind }

-- the words from here to the line's end, and the end
abbrev pub words_place : ℕ → List (List Word) → List Word → List Word → Option PlainPlace
words_place line lines before [] = option_map (place_behind line before []) (end_fault lines before)
words_place line lines before (w ∷ ws) =
    option_or (option_map (place_behind line before w) (word_fault lines before w))
    (words_place line lines (before ++ w ∷ []) ws)

-- the places from a line on, and the end of the input, the last line's number being known
abbrev pub lines_place : ℕ → List (List Word) → List Line → Option PlainPlace
lines_place count lines [] = if is_line_due lines then Some (place_behind (suc count) [] [] Missing) else None
lines_place count lines (l ∷ ls) =
    option_or (words_place l.number lines [] l.words) (lines_place count (lines ++ l.words ∷ []) ls)

-- the place of a text's first fault
abbrev pub first_place : List ℕ → Option PlainPlace
first_place text = lines_place (line_count text) [] (significant_lines text)

-- the fault at a place, without its word
abbrev pub fault_of : PlainPlace → ReadFault
fault_of place = fault_at place.line place.kind
