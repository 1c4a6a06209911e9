-- The first file of each auction, among added files. What is said of files and their texts is said of any texts of
-- files, and of any relation between files: files have one canonical text if they are the same auction, and one
-- unsearched text if they are alike.
use Rattle.std.specs.Map.{lookup}
use Rattle.std.specs.Prelude.{◌≡◌, ◌⊎◌, ℕ, ◌+◌, ◌<◌, List, [], length, position, Option, Some, None, slice_get}
use Rattle.std.specs.Prelude.{bytes_eq, cond, unwrap_or}
use Rattle.std.specs.Prelude.{Result, Ok, Err}
use Rattle.std.specs.Io.KnownBytes.{Consumes}
use Rattle.bid_file.specs.Files.{PlainFile, IsPlainFile}
use Rattle.cats_text.specs.Streams.{inner_of, ReadsAs, ReadsFile}
use Rattle.cats_text.specs.declared.read_fault.ReadFault.{ReadFault}
use Rattle.cats_text.specs.declared.stream.Watched.{Watched}
use Rattle.canon.specs.Answers.{RefusesAs}
use Rattle.canon.specs.Canonical.{canonical_text}
use Rattle.canon.specs.Normalising.{IsText, normalised_file}
use Rattle.canon.specs.Refusals.{refusal_of}
use Rattle.canon.specs.declared.canon_fault.CanonFault.{CanonFault}
use Rattle.valuation.specs.declared.search.options.SearchOptions.{SearchOptions}

-- the number of the first file in this relation to the given one
pub record IsFirstNumber (Related : PlainFile → PlainFile → Type 0) (files : List PlainFile) (given : PlainFile)
    (number : ℕ) : Type 0 where
  pub file : PlainFile
  pub there : slice_get files number ≡ Some file
  pub related : Related file given
  pub first : (k : ℕ) (other : PlainFile) → k < number → slice_get files k ≡ Some other → Related other given → ⊥

-- the number of the first file with the given one's canonical text
abbrev pub first_number : List PlainFile → PlainFile → Option ℕ
first_number files given = position (λ file. bytes_eq (canonical_text file) (canonical_text given)) files

-- ---- an index of texts

-- texts with the numbers of their first files, and how many files were added
pub record TextIndex : Type 0 where
  pub texts : List (List ℕ × ℕ)
  pub count : ℕ

-- the number of a text, if the index has it
abbrev pub text_number : TextIndex → List ℕ → Option ℕ
text_number index text = lookup (bytes_eq text) index.texts

-- an index without texts, to which no file was added
pub record IsEmptyIndex (index : TextIndex) : Type 0 where
  pub texts : index.texts ≡ []
  pub count : index.count ≡ 0

-- one file more has this text, with its first file's number, or a new one
pub record AddsText (old new : TextIndex) (text : List ℕ) (number : ℕ) : Type 0 where
  pub found : number ≡ unwrap_or (text_number old text) old.count
  pub numbers : (other : List ℕ) → text_number new other
      ≡ cond (bytes_eq text other) (Some number) (text_number old other)
  pub count : new.count ≡ old.count + 1

-- by the text that each file has
module _ (text_of : PlainFile → List ℕ) where
  -- the first of the files with this text has this number
  pub record IsFirstText (files : List PlainFile) (text : List ℕ) (number : ℕ) : Type 0 where
    pub file : PlainFile
    pub there : slice_get files number ≡ Some file
    pub has : text_of file ≡ text
    pub first : (k : ℕ) (other : PlainFile) → k < number → slice_get files k ≡ Some other → text_of other ≡ text → ⊥

  -- none of the files has this text
  abbrev pub LacksText : List PlainFile → List ℕ → Type 0
  LacksText files text = (k : ℕ) (other : PlainFile) → slice_get files k ≡ Some other → text_of other ≡ text → ⊥

  abbrev pub NumbersText : List PlainFile → List ℕ → Option ℕ → Type 0
  NumbersText files text None = LacksText files text
  NumbersText files text (Some number) = IsFirstText files text number

  -- the index of these files: each text with its first file's number
  pub record IsIndexOf (index : TextIndex) (files : List PlainFile) : Type 0 where
    pub facts : (k : ℕ) (file : PlainFile) → slice_get files k ≡ Some file → IsPlainFile file
    pub texts : (text : List ℕ) → NumbersText files text (text_number index text)
    pub count : index.count ≡ length files

-- ---- a file that is read from a stream first

module _ {R : Type 0} (remaining : R → Option (List ℕ)) where
  -- the bytes spell a file, which is added with its canonical text, and this is its number
  pub record AddsFile (options : SearchOptions) (old new : TextIndex) (bytes : List ℕ) (input : Watched R)
      (number : ℕ) : Type 0 where
    pub file : PlainFile
    pub reads : ReadsFile remaining bytes input file
    pub within_limit : normalised_file options file ≡ IsText (canonical_text file)
    pub added : AddsText old new (canonical_text file) number

  -- the bytes spell no file, or no more came
  pub record IsUnread (bytes : List ℕ) (input : Watched R) (fault : CanonFault) : Type 0 where
    pub why : ReadFault
    pub reads : ReadsAs remaining bytes input (Err why)
    pub is : fault ≡ refusal_of why

  -- the bytes spell a file, which has no canonical text, or memory was refused
  pub record IsUnmade (options : SearchOptions) (bytes : List ℕ) (input : Watched R) (fault : CanonFault) : Type 0 where
    pub file : PlainFile
    pub reads : ReadsFile remaining bytes input file
    pub refused : RefusesAs (normalised_file options file) fault

  abbrev pub AddsOrRefuses : SearchOptions → TextIndex → TextIndex → List ℕ → Watched R → Result ℕ CanonFault → Type 0
  AddsOrRefuses options old new bytes input (Ok number) = AddsFile options old new bytes input number
  AddsOrRefuses options old new bytes input (Err fault) =
      (new ≡ old) × (IsUnread bytes input fault ⊎ IsUnmade options bytes input fault)

  -- a stream was read and its file added; after a fault the index is as before
  pub record AddsStream (options : SearchOptions) (old new : TextIndex) (before after : Watched R)
      (answer : Result ℕ CanonFault) : Type 0 where
    pub bytes : List ℕ
    pub consumes : Consumes (remaining (inner_of before)) (remaining (inner_of after)) bytes
    pub adds : AddsOrRefuses options old new bytes after answer
