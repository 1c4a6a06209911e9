-- The column of a place: where it is in its line, in bytes counted from 1.
use Rattle.std.specs.Prelude.{◌==◌, ◌-◌, ℕ, suc, if◌then◌else◌, List, [], ◌∷◌, drop, length, position, take, unwrap_or}
use Rattle.std.specs.List.{slice_get, slice_split}
use Rattle.std.specs.Str.Lines.{strip_carriage_return}
use Rattle.cats_text.specs.FaultPlaces.{PlainPlace}
use Rattle.cats_text.specs.Lines.{Word, begins_word, is_blank}

-- The bytes of a line before the word that has so many words before it, counted. If there is no such word, all bytes.
abbrev pub bytes_before : ℕ → List ℕ → ℕ
bytes_before words [] = 0
bytes_before words (b ∷ bs) = if is_blank b then suc (bytes_before words bs) else
    if words == 0 then 0 else suc (bytes_before (if begins_word bs then words else words - 1) bs)

-- the line of a number, without its LF and a CR before it
abbrev pub line_at : ℕ → List ℕ → List ℕ
line_at number text = strip_carriage_return (unwrap_or (slice_get (slice_split (λ b. b == 10) text) (number - 1)) [])

-- how many bytes of its line come before a place
abbrev pub index_of : List ℕ → PlainPlace → ℕ
index_of text place = bytes_before (place.word - 1) (line_at place.line text)

abbrev pub column_of : List ℕ → PlainPlace → ℕ
column_of text place = suc (index_of text place)

-- the bytes before the first blank
abbrev pub leading_word : List ℕ → Word
leading_word bytes = take (unwrap_or (position is_blank bytes) (length bytes)) bytes

-- a place of a text whose prices were rounded, with the word that is there in the text as it is written
abbrev pub place_in : List ℕ → PlainPlace → PlainPlace
place_in text place = record place { text = leading_word (drop (index_of text place) (line_at place.line text)) }
