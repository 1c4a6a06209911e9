-- How a path is printed. On a line, a printable character of it is as it is, and each other byte is escaped: the path
-- stays on its line, and controls no terminal. And how it is read back from a line.
use Rattle.std.specs.Prelude.{◌≡◌, ℕ, ◌+◌, ◌-◌, ◌*◌, ◌/◌, ◌%◌, ◌<◌, ◌==◌, ◌&&◌, ◌||◌, not, nat_lt, eqb, if◌then◌else◌}
use Rattle.std.specs.Prelude.{Bool, true, List, [], ◌∷◌, ◌++◌, fold, length, get_or, encode_utf8_all}
use Rattle.std.specs.Char.{digit_char, digit_value, encode_utf8, is_control}
use Rattle.std.specs.Int.{is_in_range}
use Rattle.std.specs.List.{All, starts_with}
use Rattle.std.specs.Str.{all_scalars}
use Rattle.cats_cmd.specs.declared.paths.Ending.{Ending}
use Rattle.cats_cmd.specs.declared.paths.Ending.TheVariants.{Line, Null}

-- ---- characters

-- it ends a line (U+2028, U+2029), controls the direction of writing, or has no width
abbrev pub is_invisible : ℕ → Bool
is_invisible c = (c == 0xAD) || (c == 0x61C) || is_in_range 0x200B 0x200F c || is_in_range 0x2028 0x202E c
    || is_in_range 0x2060 0x206F c || (c == 0xFEFF)

-- neither a control character nor invisible
abbrev pub is_printable : ℕ → Bool
is_printable c = not (is_control c || is_invisible c)

-- a printable character, a tab or LF
abbrev pub is_shown : ℕ → Bool
is_shown c = is_printable c || (c == 9) || (c == 10)

-- the text is the UTF-8 of characters of a kind
pub record IsTextOf (is_of_kind : ℕ → Bool) (text : List ℕ) : Type 0 where
  pub characters : List ℕ
  pub scalars : all_scalars characters ≡ true
  pub kind : All (λ c. is_of_kind c ≡ true) characters
  pub spelt : encode_utf8_all characters ≡ text

-- numbers below 256
abbrev pub AreBytes : List ℕ → Type 0
AreBytes text = All (λ b. b < 256) text

-- the six low bits of one of the bytes behind the first
abbrev pub low_bits : List ℕ → ℕ → ℕ
low_bits bytes i = get_or bytes i 0 % 64

-- the number of the character with which the bytes begin, if they begin with one; by its first byte it has one byte to
-- four
abbrev pub code_at : List ℕ → ℕ
code_at bytes = let first = get_or bytes 0 0 in
    if nat_lt first 128 then first else
    if nat_lt first 224 then first % 32 * 64 + low_bits bytes 1 else
    if nat_lt first 240 then first % 16 * 4096 + low_bits bytes 1 * 64 + low_bits bytes 2 else
    first % 8 * 262144 + low_bits bytes 1 * 4096 + low_bits bytes 2 * 64 + low_bits bytes 3

-- a character that is not escaped
abbrev pub is_plain : ℕ → Bool
is_plain c = all_scalars (c ∷ []) && (is_printable c && not (c == 92))

-- how many bytes the character has that is at the start, if it is not escaped, and else 0
abbrev pub plain_length : List ℕ → ℕ
plain_length bytes = let c = code_at bytes in
    if is_plain c && starts_with eqb bytes (encode_utf8 c) then length (encode_utf8 c) else 0

-- ---- a path as it is printed

-- a byte below 32, or 127
abbrev pub is_control_byte : ℕ → Bool
is_control_byte b = nat_lt b 32 || (b == 127)

-- `\x` and two hexadecimal digits
abbrev pub hex_escape : ℕ → List ℕ
hex_escape b = 92 ∷ 120 ∷ digit_char (b / 16) ∷ digit_char (b % 16) ∷ []

-- a backslash is `\\`, LF is `\n`, and a tab is `\t` (a number that is no byte stays)
abbrev pub escaped_byte : ℕ → List ℕ
escaped_byte b =
    if b == 92 then 92 ∷ 92 ∷ [] else if b == 10 then 92 ∷ 110 ∷ [] else if b == 9 then 92 ∷ 116 ∷ [] else
    if nat_lt b 256 then hex_escape b else b ∷ []

-- the bytes, the first `left` of which are of a character that is not escaped
abbrev pub escaped_behind : ℕ → List ℕ → List ℕ
escaped_behind left [] = []
escaped_behind left (b ∷ bs) = let now = if left == 0 then plain_length (b ∷ bs) else left in
    if now == 0 then escaped_byte b ++ escaped_behind 0 bs else b ∷ escaped_behind (now - 1) bs

-- a path with all but printable characters escaped
abbrev pub escaped : List ℕ → List ℕ
escaped path = escaped_behind 0 path

-- ---- a path as it is read back

-- what the bytes before the next one were
pub data Reading : Type 0 where
  -- whole bytes of the path
  Plain : Reading
  -- a backslash
  Slash : Reading
  -- a backslash and `x`
  Hex : Reading
  -- these, and a digit of this value
  Digit : ℕ → Reading

abbrev pub byte_named : ℕ → ℕ
byte_named letter = if letter == 110 then 10 else if letter == 116 then 9 else letter

-- one more byte, behind those from which this much of the path was read
abbrev pub reads_byte : Reading × List ℕ → ℕ → Reading × List ℕ
reads_byte (Plain, path) b = if b == 92 then (Slash, path) else (Plain, path ++ b ∷ [])
reads_byte (Slash, path) b = if b == 120 then (Hex, path) else (Plain, path ++ byte_named b ∷ [])
reads_byte (Hex, path) b = (Digit (digit_value b), path)
reads_byte (Digit d, path) b = (Plain, path ++ (d * 16 + digit_value b) ∷ [])

-- the path, read back from an escaped one (law)
abbrev pub unescaped : List ℕ → List ℕ
unescaped text = (fold reads_byte (Plain, []) text).1

-- ---- a path in the output

-- what is behind each path
abbrev pub end_of : Ending → List ℕ
end_of Line = 10 ∷ []
end_of Null = 0 ∷ []

abbrev pub path_text : Ending → List ℕ → List ℕ
path_text Line path = escaped path ++ 10 ∷ []
path_text Null path = path ++ 0 ∷ []
