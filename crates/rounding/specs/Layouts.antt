-- Lines in layouts of other publishers, mended. A line `dummy 0` is put in where it is missing. Keywords are written in
-- lower case and without a colon. A comment that begins with `#` begins with `%` then, and a remark behind the `#` that
-- ends a bid is cut.
use Rattle.std.specs.Prelude.{◌≡◌, ℕ, suc, ◌+◌, ◌-◌, ◌==◌, nat_le, nat_lt, Bool, true, false, not, ◌&&◌, ◌||◌}
use Rattle.std.specs.Prelude.{if◌then◌else◌, List, [], ◌∷◌, ◌++◌, length, take, drop, Option, Some, None, is_some}
use Rattle.std.specs.Prelude.{Result, Ok, Err, codes}
use Rattle.std.specs.List.{list_any}
use Rattle.std.specs.Str.{bytes_eq, str_eq_ignore_ascii_case}
use Rattle.cats_text.specs.Lines.{Word, RawLine, is_blank, line_byte, raw_lines}
use Rattle.cats_text.specs.Numbers.{is_digit}
use Rattle.rounding.specs.Texts.{blanks, behind_blanks, leading_word, behind_word, before_next, lines_text}
use Rattle.rounding.specs.declared.layout.Mend.{Mend}
use Rattle.rounding.specs.declared.layout.Mend.TheVariants.{Dummy, Keyword, Comment, Remark}
use Rattle.rounding.specs.declared.layout.MendedLine.{MendedLine}
use Rattle.rounding.specs.declared.mend.MendedText.{MendedText}

-- ---- the keyword of a header line

-- the keyword that is due behind so many significant lines
abbrev pub keyword : ℕ → Word
keyword before = if before == 0 then codes "goods" else (if before == 1 then codes "bids" else codes "dummy")

-- the word is not the keyword, but is if case and a colon behind it do not count
abbrev pub is_other_spelling : Word → Word → Bool
is_other_spelling word due = not (bytes_eq word due)
    && (str_eq_ignore_ascii_case word due || str_eq_ignore_ascii_case word (due ++ codes ":"))

-- ---- a remark behind a bid's end

abbrev pub begins_with_digit : List ℕ → Bool
begins_with_digit [] = false
begins_with_digit (b ∷ bs) = is_digit b

-- a word begins there, but not with a digit
abbrev pub begins_remark : List ℕ → Bool
begins_remark [] = false
begins_remark (b ∷ bs) = not (is_digit b)

-- the word `#`, and a remark behind it
abbrev pub is_remarked_end : List ℕ → Bool
is_remarked_end [] = false
is_remarked_end (b ∷ bs) = (b == 35) && (nat_lt 0 (length (blanks bs)) && begins_remark (behind_blanks bs))

-- the bytes before the blank before that word; all bytes if it is not there
abbrev pub before_end : List ℕ → List ℕ
before_end [] = []
before_end (b ∷ bs) = if is_blank (line_byte b bs) && is_remarked_end bs then [] else b ∷ before_end bs

-- ---- a line

-- the line `dummy` is missing before a line: two significant lines are before it, and it begins with a digit
abbrev pub lacks_dummy : ℕ → List ℕ → Bool
lacks_dummy before line = (before == 2) && begins_with_digit (behind_blanks line)

abbrev pub mend_in_bid : List ℕ → Option Mend
mend_in_bid line = if nat_lt (length (before_end line)) (length line) then Some Remark else None

abbrev pub mend_in_header : ℕ → Word → Option Mend
mend_in_header before word = if is_other_spelling word (keyword before) then Some Keyword else None

-- what has to be mended in a line behind so many significant lines, by its bytes behind its first blanks
abbrev pub mend_by : ℕ → List ℕ → List ℕ → Option Mend
mend_by before line [] = None
mend_by before line (b ∷ bs) = if b == 37 then None else (if b == 35 then Some Comment
    else (if nat_le 3 before then mend_in_bid line else mend_in_header before (leading_word (b ∷ bs))))

-- what has to be mended in a line behind so many significant lines
abbrev pub mend_of : ℕ → List ℕ → Option Mend
mend_of before line = mend_by before line (behind_blanks line)

-- the line with that mended: another keyword, `%` for `#`, or up to the word `#` that ends the bid
abbrev pub mended_by : Option Mend → ℕ → List ℕ → List ℕ
mended_by None before line = line
mended_by (Some Dummy) before line = line
mended_by (Some Keyword) before line = blanks line ++ keyword before ++ behind_word (behind_blanks line)
mended_by (Some Comment) before line = blanks line ++ codes "%" ++ drop 1 (behind_blanks line)
mended_by (Some Remark) before line = take (length (before_end line) + 2) line

abbrev pub mended_bytes : ℕ → List ℕ → List ℕ
mended_bytes before line = mended_by (mend_of before line) before line

-- the line has to be mended, or `dummy 0` has to be put in before it
abbrev pub needs_mending : ℕ → List ℕ → Bool
needs_mending before line = lacks_dummy before line || is_some (mend_of before line)

-- ---- lines

abbrev pub mended_line : ℕ → RawLine → RawLine
mended_line before l = record { bytes = mended_bytes before l.bytes; ended = l.ended }

abbrev pub dummy_line : RawLine
dummy_line = record { bytes = codes "dummy 0"; ended = true }

-- the line that is put in before a line, if one is missing
abbrev pub put_in : ℕ → List ℕ → List RawLine
put_in before line = if lacks_dummy before line then dummy_line ∷ [] else []

-- so many significant lines are before a line then
abbrev pub with_put_in : ℕ → List ℕ → ℕ
with_put_in before line = before + length (put_in before line)

-- what a line becomes behind so many significant lines
abbrev pub line_mended : ℕ → RawLine → List RawLine
line_mended before l = put_in before l.bytes ++ mended_line (with_put_in before l.bytes) l ∷ []

-- so many significant lines are before the next line then
abbrev pub before_behind : ℕ → RawLine → ℕ
before_behind before l = before_next (with_put_in before l.bytes) (mended_line (with_put_in before l.bytes) l)

-- the lines behind so many significant lines, mended
abbrev pub mended_lines : ℕ → List RawLine → List RawLine
mended_lines before [] = []
mended_lines before (l ∷ ls) = line_mended before l ++ mended_lines (before_behind before l) ls

-- the text, mended line by line
abbrev pub mended_text : List ℕ → List ℕ
mended_text text = lines_text (mended_lines 0 (raw_lines text))

-- ---- what was mended

abbrev pub mended_at : ℕ → Option Mend → List MendedLine
mended_at number None = []
mended_at number (Some mend) = record { line = number; mend = mend } ∷ []

abbrev pub put_in_at : ℕ → ℕ → List ℕ → List MendedLine
put_in_at number before line = if lacks_dummy before line then mended_at number (Some Dummy) else []

abbrev pub line_mends : ℕ → ℕ → RawLine → List MendedLine
line_mends number before l =
    put_in_at number before l.bytes ++ mended_at number (mend_of (with_put_in before l.bytes) l.bytes)

-- with the numbers that the lines have in the text as it is
abbrev pub lines_mends : ℕ → ℕ → List RawLine → List MendedLine
lines_mends number before [] = []
lines_mends number before (l ∷ ls) = line_mends number before l ++ lines_mends (suc number) (before_behind before l) ls

-- each mend of a text, in order, with the number of its line in the text as it is
abbrev pub mended_places : List ℕ → List MendedLine
mended_places text = lines_mends 1 0 (raw_lines text)

abbrev pub lines_need_mending : ℕ → List RawLine → Bool
lines_need_mending before [] = false
lines_need_mending before (l ∷ ls) = needs_mending before l.bytes || lines_need_mending (before_next before l) ls

-- something in the text has to be mended
abbrev pub has_mends : List ℕ → Bool
has_mends text = lines_need_mending 0 (raw_lines text)

-- the mended text, and its mends
pub record IsMended (text : List ℕ) (m : MendedText) : Type 0 where
  pub text_is : m.text.items ≡ mended_text text
  pub mends_are : m.mends.items ≡ mended_places text

-- the mended text; or memory was refused, and something in the text has to be mended
abbrev pub MendAnswer : {E : Type 0} → List ℕ → Result MendedText E → Type 0
MendAnswer text (Ok m) = IsMended text m
MendAnswer text (Err e) = has_mends text ≡ true

-- ---- from a line of the mended text to the line of the text as it was

abbrev pub is_dummy : Mend → Bool
is_dummy Dummy = true
is_dummy Keyword = false
is_dummy Comment = false
is_dummy Remark = false

-- a line was put in before this line of the mended text
abbrev pub is_put_in_before : ℕ → MendedLine → Bool
is_put_in_before line m = is_dummy m.mend && nat_lt m.line line

-- the line of the text that became this line of the mended text: one less behind the line that was put in
abbrev pub line_in_file : List MendedLine → ℕ → ℕ
line_in_file mends line = if list_any (is_put_in_before line) mends then line - 1 else line
