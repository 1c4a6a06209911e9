-- Streams and places of worked rows. The streams are lists of bytes.
use Rattle.std.specs.Prelude.{ℕ, Bool, List, Option, Some}
use Rattle.cats_text.specs.FaultPlaces.{PlainPlace}
use Rattle.cats_text.specs.declared.read_fault.Kind.{Kind}
use Rattle.cats_text.specs.declared.stream.Watched.{Watched}

-- what is known of such a stream: all of its bytes
abbrev pub known : List ℕ → Option (List ℕ)
known bytes = Some bytes

-- a stream with these bytes, of which a call failed or a read met the end
abbrev pub watched : List ℕ → Bool → Bool → Watched (List ℕ)
watched bytes failed ended = record { inner = bytes; failed = failed; ended = ended }

-- a place, by its line, its word and the word's bytes
abbrev pub place : ℕ → ℕ → List ℕ → Kind → PlainPlace
place line word text kind = record { line = line; word = word; text = text; kind = kind }
