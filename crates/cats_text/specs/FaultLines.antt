-- The first fault of a text, with the line that has it.
use Rattle.std.specs.Prelude.{◌≡◌, ◌==◌, ◌-◌, ℕ, List, [], ◌∷◌, Option, Some, None, unwrap_or}
use Rattle.std.specs.List.{slice_get, slice_split}
use Rattle.cats_text.specs.FaultPlaces.{PlainPlace, first_place}
use Rattle.cats_text.specs.declared.fault_finder.FaultLine.{FaultLine}

-- the bytes of the line with a number, counted from 1, without its LF; a text has none there if it has fewer lines
abbrev pub bytes_of_line : ℕ → List ℕ → List ℕ
bytes_of_line number text = unwrap_or (slice_get (slice_split (λ b. b == 10) text) (number - 1)) []

pub record IsFaultLine (text : List ℕ) (found : FaultLine) : Type 0 where
  pub place : PlainPlace
  pub first : first_place text ≡ Some place
  pub line : found.line ≡ place.line
  pub word : found.word ≡ place.word
  pub kind : found.kind ≡ place.kind
  pub bytes : found.bytes.items ≡ bytes_of_line place.line text
  pub one_line : slice_split (λ b. b == 10) found.bytes.items ≡ found.bytes.items ∷ []

-- the place of the text's first fault, with its line; none if there is no fault
abbrev pub FindsFault : List ℕ → Option FaultLine → Type 0
FindsFault text None = first_place text ≡ None
FindsFault text (Some found) = IsFaultLine text found
