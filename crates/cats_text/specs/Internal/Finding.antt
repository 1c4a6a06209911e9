-- What a `FaultSearch` keeps: behind the lines that it judged it has the bytes of the next one, or that one's fault.
use Rattle.std.specs.Prelude.{◌≡◌, ◌==◌, ◌+◌, ◌≤◌, ℕ, suc, false, if◌then◌else◌, List, [], ◌∷◌, ◌++◌, length, Option}
use Rattle.std.specs.Prelude.{Some, None, Ok, Err}
use Rattle.std.specs.List.{AllByRecursion, slice_get, slice_split}
use Rattle.cats_text.specs.Lines.{Word, RawLine, raw_lines, blank_returns, line_words}
use Rattle.cats_text.specs.FaultLines.{bytes_of_line}
use Rattle.cats_text.specs.FaultPlaces.{PlainPlace, place_behind}
use Rattle.cats_text.specs.Keeps.{number_alone}
use Rattle.cats_text.specs.Internal.Parsing.{start, is_due}
use Rattle.cats_text.specs.Internal.Places.{Judged, judged_then, line_judged, seen, without_return}
use Rattle.cats_text.specs.Internal.Progress.{Progress}
use Rattle.cats_text.specs.declared.fault_finder.FaultSearch.{FaultSearch}
use Rattle.cats_text.specs.declared.fault_finder.FaultyWord.{FaultyWord}
use Rattle.cats_text.specs.declared.read_fault.Kind.TheVariants.{Missing}

-- the lines from one with this number on, and the end of the input
abbrev pub lines_judged : ℕ → List RawLine → Progress → Judged
lines_judged n [] p = if is_due p then Err (place_behind n [] [] Missing) else Ok p
lines_judged n (raw ∷ raws) p = judged_then (line_judged n (line_words raw.bytes) p) (lines_judged (suc n) raws)

-- the lines of a text whose first one has this number
abbrev pub lines_of_judged : ℕ → List ℕ → Progress → Judged
lines_of_judged n text p = lines_judged n (raw_lines (blank_returns text)) p

abbrev pub text_judged : List ℕ → Judged
text_judged text = lines_of_judged 1 text (start (λ _. number_alone))

-- all bytes that came
abbrev pub bytes_of : FaultSearch → List ℕ
bytes_of f = f.history.bytes

abbrev pub HasNoEnd : List ℕ → Type 0
HasNoEnd line = AllByRecursion (λ b. (b == 10) ≡ false) line

abbrev pub place_at : ℕ → Word → FaultyWord → PlainPlace
place_at line text fault = record { line = line; word = fault.word; text = text; kind = fault.kind }

-- these bytes are so many whole lines
pub record AreLines (done : List ℕ) (lines : ℕ) : Type 0 where
  pub count : lines ≤ length done
  pub splits : (rest : List ℕ) (k : ℕ) → slice_get (slice_split (λ b. b == 10) (done ++ rest)) (lines + k)
      ≡ slice_get (slice_split (λ b. b == 10) rest) k

-- the next line is not whole yet
pub record IsInLine (f : FaultSearch) (done : List ℕ) : Type 0 where
  pub bytes : bytes_of f ≡ done ++ f.line.items
  pub judged : (rest : List ℕ) → text_judged (done ++ rest) ≡ lines_of_judged (suc f.lines) rest (seen f.parser)

-- the next line has this fault, whatever is behind it
pub record IsBehindFault (f : FaultSearch) (done : List ℕ) (fault : FaultyWord) : Type 0 where
  pub more : List ℕ
  pub bytes : bytes_of f ≡ done ++ (f.line.items ++ 10 ∷ more)
  pub text : Word
  pub judged : (rest : List ℕ)
      → text_judged (done ++ (f.line.items ++ 10 ∷ rest)) ≡ Err (place_at (suc f.lines) text fault)

abbrev pub Seeks : FaultSearch → List ℕ → Option FaultyWord → Type 0
Seeks f done None = IsInLine f done
Seeks f done (Some fault) = IsBehindFault f done fault

pub record IsSeeking (f : FaultSearch) : Type 0 where
  pub done : List ℕ
  pub lines : AreLines done f.lines
  pub line : HasNoEnd f.line.items
  pub seeks : Seeks f done f.found

-- ---- a line is judged

pub record PassesLine (old new : FaultSearch) : Type 0 where
  pub judged : line_judged (suc old.lines) (line_words (without_return old.line.items)) (seen old.parser)
      ≡ Ok (seen new.parser)
  pub lines : new.lines ≡ suc old.lines
  pub line : new.line.items ≡ []

pub record FindsInLine (old new : FaultSearch) (fault : FaultyWord) : Type 0 where
  pub text : Word
  pub judged : line_judged (suc old.lines) (line_words (without_return old.line.items)) (seen old.parser)
      ≡ Err (place_at (suc old.lines) text fault)
  pub lines : new.lines ≡ old.lines
  pub line : new.line.items ≡ old.line.items

-- the line that is kept was judged
abbrev pub JudgesLine : FaultSearch → FaultSearch → Option FaultyWord → Type 0
JudgesLine old new None = PassesLine old new
JudgesLine old new (Some fault) = FindsInLine old new fault

-- ---- the end of the text

pub record HasNoFault (f : FaultSearch) (text : List ℕ) : Type 0 where
  pub judged : text_judged text ≡ lines_of_judged (suc f.lines) [] (seen f.parser)
  pub bytes : bytes_of_line (suc f.lines) text ≡ []

pub record HasFaultAt (f : FaultSearch) (text : List ℕ) (fault : FaultyWord) : Type 0 where
  pub word : Word
  pub judged : text_judged text ≡ Err (place_at (suc f.lines) word fault)
  pub bytes : bytes_of_line (suc f.lines) text ≡ f.line.items
  pub line : HasNoEnd f.line.items

-- all lines of a text were judged up to the first that has a fault
abbrev pub HasJudged : FaultSearch → List ℕ → Option FaultyWord → Type 0
HasJudged f text None = HasNoFault f text
HasJudged f text (Some fault) = HasFaultAt f text fault
