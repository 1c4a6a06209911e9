-- The leading token of bytes.
use Rattle.std.specs.Prelude.{◌≡◌, ◌<◌, ◌≤◌, ◌==◌, ◌||◌, ◌+◌, if◌then◌else◌, ℕ, Bool, true, false, List, length, take}
use Rattle.std.specs.Prelude.{fold}
use Rattle.std.specs.Prelude.{slice_index}
use Rattle.std.specs.List.{AllByRecursion}
use Rattle.cats_text.specs.Lines.{is_blank}
use Rattle.cats_text.specs.Numbers.{digits_alone}
use Rattle.cats_text.specs.Internal.Machine.{word_with, summary}
use Rattle.cats_text.specs.declared.word.Word.{Word}
use Rattle.cats_text.specs.declared.word.Word.TheVariants.{Number}

-- no control, no blank, and not the byte that begins a comment
abbrev pub IsPlain : ℕ → Type 0
IsPlain b = (32 < b) × ((b == 37) ≡ false)

-- the first so many bytes are digits, and a number goes on with them from one to another
pub record IsNumberSoFar (first : ℕ) (bytes : List ℕ) (count sum : ℕ) : Type 0 where
  pub digits : digits_alone (take count bytes) ≡ true
  pub value : Number sum ≡ fold word_with (Number first) (take count bytes)

-- the first so many bytes, of which this is kept as a word
pub record IsKept (bytes : List ℕ) (kept : Word) (count : ℕ) : Type 0 where
  pub some : 0 < count
  pub within : count ≤ length bytes
  pub plain : AllByRecursion IsPlain (take count bytes)
  pub word : kept ≡ summary (take count bytes)

-- a blank or LF
abbrev pub ends_word : ℕ → Bool
ends_word b = is_blank b || (b == 10)

-- neither a blank nor CR or LF
abbrev pub IsLetter : ℕ → Type 0
IsLetter b = (ends_word b || (b == 13)) ≡ false

-- the first so many bytes are a word of which this is kept, and the blank behind it, or LF is behind them
pub record IsLeadingToken (bytes : List ℕ) (word : Word) (taken : ℕ) : Type 0 where
  pub count : ℕ
  pub kept : IsKept bytes word count
  pub within : count < length bytes
  pub ends : ends_word (slice_index bytes count) ≡ true
  pub is : taken ≡ count + (if slice_index bytes count == 10 then 0 else 1)
