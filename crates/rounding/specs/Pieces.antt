-- A text that is rounded in pieces.
use Rattle.std.specs.Prelude.{◌≡◌, ◌<◌, ◌==◌, ℕ, Bool, false, List, [], ◌∷◌, ◌++◌, if◌then◌else◌}
use Rattle.std.specs.List.{list_any}
use Rattle.cats_text.specs.Lines.{raw_lines}
use Rattle.rounding.specs.Texts.{PlainRoundedPrice, lines_changes, lines_text, rounded_lines}
use Rattle.rounding.specs.Views.{plain_changes}
use Rattle.rounding.specs.declared.rounder.Rounder.{Rounder}
use Rattle.rounding.specs.declared.text.RoundedText.{RoundedText}

-- whether a line ends in a text
abbrev pub has_line_end : List ℕ → Bool
has_line_end text = list_any (λ b. b == 10) text

-- no line has ended in the bytes that are held, and the number of their line counts the lines before it
pub record IsRounding (rounder : Rounder) : Type 0 where
  pub line : has_line_end rounder.line.items ≡ false
  pub before : rounder.before < rounder.number

-- the rounded text of the bytes that are held and of these bytes
abbrev pub rounded_with : Rounder → List ℕ → List ℕ
rounded_with r bytes = lines_text (rounded_lines r.rule r.before (raw_lines (r.line.items ++ bytes)))

-- the rounded prices of the bytes that are held and of these bytes
abbrev pub prices_with : Rounder → List ℕ → List PlainRoundedPrice
prices_with r bytes = lines_changes r.rule r.number r.before (raw_lines (r.line.items ++ bytes))

-- Of a piece the bytes before these were rounded, whatever follows it. What was written before, and the rounded text of
-- the piece and what follows, is what is written now, and the rounded text of these bytes and what follows. So are the
-- prices.
pub record RoundsOn (old : Rounder) (piece : List ℕ) (new : Rounder) (behind : List ℕ)
    (from to : RoundedText) : Type 0 where
  pub holds : IsRounding new
  pub text : (rest : List ℕ)
      → from.text.items ++ rounded_with old (piece ++ rest) ≡ to.text.items ++ rounded_with new (behind ++ rest)
  pub prices : (rest : List ℕ) → plain_changes from.prices.items ++ prices_with old (piece ++ rest)
      ≡ plain_changes to.prices.items ++ prices_with new (behind ++ rest)

-- the bytes that were held were rounded too
pub record RoundsAll (old : Rounder) (from to : RoundedText) : Type 0 where
  pub text : from.text.items ++ rounded_with old [] ≡ to.text.items
  pub prices : plain_changes from.prices.items ++ prices_with old [] ≡ plain_changes to.prices.items

-- the LF of a line that has one
abbrev pub line_end : Bool → List ℕ
line_end ended = if ended then 10 ∷ [] else []
