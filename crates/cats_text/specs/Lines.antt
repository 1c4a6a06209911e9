-- The lines and words of a text. By the README of CATS 2.0 ("a bid file is a text of lines; lines that begin with `%`
-- are comments") and this project's profile of it: a line ends with LF, a word is a longest run of bytes that are no
-- blank.
use Rattle.std.specs.Prelude.{ℕ, suc, ◌==◌, Bool, true, false, not, ◌&&◌, ◌||◌, if◌then◌else◌, List, [], ◌∷◌, length}
use Rattle.std.specs.Prelude.{filter}

-- a list of bytes
abbrev pub Word : Type 0
Word = List ℕ

-- space and tab
abbrev pub is_blank : ℕ → Bool
is_blank b = (b == 32) || (b == 9)

-- whether a line ends before these bytes
abbrev pub line_ends : List ℕ → Bool
line_ends [] = true
line_ends (b ∷ bs) = b == 10

-- a CR at the end of a line is a blank like a space; any other CR is a byte of a word
abbrev pub line_byte : ℕ → List ℕ → ℕ
line_byte b bs = if (b == 13) && line_ends bs then 32 else b

-- the text with a space for each CR that ends a line
abbrev pub blank_returns : List ℕ → List ℕ
blank_returns [] = []
blank_returns (b ∷ bs) = line_byte b bs ∷ blank_returns bs

-- a line's bytes without its LF, and whether an LF ended it
pub record RawLine : Type 0 where
  pub bytes : List ℕ
  pub ended : Bool

-- one more byte at the start of the first line
abbrev pub with_byte : ℕ → List RawLine → List RawLine
with_byte b [] = record { bytes = b ∷ []; ended = false } ∷ []
with_byte b (l ∷ ls) = record { bytes = b ∷ l.bytes; ended = l.ended } ∷ ls

-- the lines of a text that begins with a byte, from the lines of the bytes after it
abbrev pub lines_with : ℕ → List RawLine → List RawLine
lines_with b ls = if b == 10 then record { bytes = []; ended = true } ∷ ls else with_byte b ls

-- a text is cut after each LF; what is after the last is one more line if it is not empty
abbrev pub raw_lines : List ℕ → List RawLine
raw_lines [] = []
raw_lines (b ∷ bs) = lines_with b (raw_lines bs)

-- whether a word begins at the start
abbrev pub begins_word : List ℕ → Bool
begins_word [] = false
begins_word (b ∷ bs) = not (is_blank b)

-- one more byte at the start of the first word
abbrev pub with_letter : ℕ → List Word → List Word
with_letter b [] = (b ∷ []) ∷ []
with_letter b (w ∷ ws) = (b ∷ w) ∷ ws

-- the words of a line that begins with a byte, from the bytes after it and their words
abbrev pub words_with : ℕ → List ℕ → List Word → List Word
words_with b bs ws = if is_blank b then ws else (if begins_word bs then with_letter b ws else ((b ∷ []) ∷ ws))

-- the words of a line, which blanks separate
abbrev pub line_words : List ℕ → List Word
line_words [] = []
line_words (b ∷ bs) = words_with b bs (line_words bs)

-- the first byte that is no blank is `%`, and such a line may hold any bytes
abbrev pub is_comment : List Word → Bool
is_comment [] = false
is_comment ([] ∷ ws) = false
is_comment ((b ∷ bs) ∷ ws) = b == 37

-- neither empty nor a comment
abbrev pub is_significant : List Word → Bool
is_significant [] = false
is_significant (w ∷ ws) = not (is_comment (w ∷ ws))

-- a line with its number, counted from 1
pub record Line : Type 0 where
  pub number : ℕ
  pub words : List Word
  pub ended : Bool

abbrev pub numbered : ℕ → List RawLine → List Line
numbered n [] = []
numbered n (l ∷ ls) = record { number = n; words = line_words l.bytes; ended = l.ended } ∷ numbered (suc n) ls

-- the lines that are neither empty nor comments, with their numbers and words
abbrev pub significant_lines : List ℕ → List Line
significant_lines text = filter (λ l. is_significant l.words) (numbered 1 (raw_lines (blank_returns text)))

-- how many lines a text has
abbrev pub line_count : List ℕ → ℕ
line_count text = length (raw_lines (blank_returns text))
