-- Streams, as contracts see them. The definitions say when a `Watched` reader or writer failed or ended, and what
-- reading a stream answers.
use Rattle.std.specs.Prelude.{◌≡◌, ◌⊎◌, ◌≤◌, ℕ, Bool, true, false, ◌==◌, ◌||◌, List, [], ◌∷◌, length, take, Option}
use Rattle.std.specs.Prelude.{Some, None, Result, Ok, Err, is_err}
use Rattle.std.specs.Io.KnownBytes.{Appends, IsAtEnd}
use Rattle.std.specs.declared.io.Error.{Error}
use Rattle.bid_file.specs.Files.{PlainFile}
use Rattle.bid_file.specs.Views.{plain_file}
use Rattle.cats_text.specs.Views.{HasSizes}
use Rattle.cats_text.specs.Grammar.{Spells}
use Rattle.cats_text.specs.Faults.{first_fault, has_bid_line, fault_at}
use Rattle.cats_text.specs.Fed.{Fed, fed_fault}
use Rattle.bid_file.specs.declared.bid.BidFile.{BidFile}
use Rattle.cats_text.specs.declared.read_fault.Kind.{Kind}
use Rattle.cats_text.specs.declared.read_fault.Kind.TheVariants.{Device, Memory}
use Rattle.cats_text.specs.declared.read_fault.ReadFault.{ReadFault}
use Rattle.cats_text.specs.declared.read_fault.SendFault.{SendFault}
use Rattle.cats_text.specs.declared.parser.Header.{Header}
use Rattle.cats_text.specs.declared.limits.TheConstants.{MAX_STREAM}
use Rattle.cats_text.specs.declared.stream.Watched.{Watched}

module _ {T : Type 0} where
  -- the reader or writer that is watched
  abbrev pub inner_of : Watched T → T
  inner_of w = w.inner

  -- whether a call of a watched reader or writer failed
  abbrev pub has_failed : Watched T → Bool
  has_failed w = w.failed

  -- whether a read of a watched reader met the end
  abbrev pub has_ended : Watched T → Bool
  has_ended w = w.ended

-- whether a call moved no byte of a nonempty piece
abbrev pub moved_nothing : Result ℕ Error → List ℕ → Bool
moved_nothing (Ok n) [] = false
moved_nothing (Ok n) (byte ∷ piece) = n == 0
moved_nothing (Err e) piece = false

-- whether a write answered an error or took nothing of a nonempty piece
abbrev pub failed_to_write : Result ℕ Error → List ℕ → Bool
failed_to_write answer piece = is_err answer || moved_nothing answer piece

-- What sending a text does.
module _ {W : Type 0} (contents : W → Option (List ℕ)) where
  -- the whole text was written
  pub record SendsWhole (old new : Watched W) (text : List ℕ) : Type 0 where
    pub appended : Appends (contents (inner_of old)) (contents (inner_of new)) text
    pub works : has_failed new ≡ false

  -- the writer failed, and so many first bytes of the text were written
  pub record SendsPart (old new : Watched W) (text : List ℕ) (written : ℕ) : Type 0 where
    pub within : written ≤ length text
    pub appended : Appends (contents (inner_of old)) (contents (inner_of new)) (take written text)
    pub failed : has_failed new ≡ true

  -- as `SendsWhole`, or as `SendsPart` by the fault's number of bytes
  abbrev pub Sends : Watched W → Watched W → List ℕ → Result (Unit {0}) SendFault → Type 0
  Sends old new text (Ok u) = SendsWhole old new text
  Sends old new text (Err fault) = SendsPart old new text fault.written

-- What reading a stream answers, by the bytes that were read and the stream that is left.
module _ {R : Type 0} (remaining : R → Option (List ℕ)) where
  -- these bytes are all that the stream had, and no more than are read of one
  pub record IsWhole (bytes : List ℕ) (input : Watched R) : Type 0 where
    pub ended : has_ended input ≡ true
    pub at_end : IsAtEnd (remaining (inner_of input))
    pub no_fault : fed_fault MAX_STREAM bytes ≡ None

  -- the bytes spell the file
  pub record ReadsFile (bytes : List ℕ) (input : Watched R) (file : PlainFile) : Type 0 where
    pub spelled : Spells bytes file
    pub whole : IsWhole bytes input
    pub works : has_failed input ≡ false

  -- a fault of the bytes themselves, found while they came or at their end
  abbrev pub IsTextFault : List ℕ → Watched R → ReadFault → Type 0
  IsTextFault bytes input fault = (fed_fault MAX_STREAM bytes ≡ Some fault)
      ⊎ (IsWhole bytes input × (first_fault bytes ≡ Some fault))

  abbrev pub FaultsAt : List ℕ → Watched R → ℕ → Kind → Type 0
  FaultsAt bytes input line Device = (line ≡ 0) × (has_failed input ≡ true) × (fed_fault MAX_STREAM bytes ≡ None)
  FaultsAt bytes input line Memory = (line ≡ 0) × (has_failed input ≡ false)
      × (has_bid_line (take MAX_STREAM bytes) ≡ true)
  FaultsAt bytes input line kind = (has_failed input ≡ false) × IsTextFault bytes input (fault_at line kind)

  -- the bytes spell a file whose header lines say this
  pub record ReadsSizes (bytes : List ℕ) (input : Watched R) (header : Header) : Type 0 where
    pub file : PlainFile
    pub reads : ReadsFile bytes input file
    pub sizes : HasSizes header file

  -- as `ReadsAs`, of the numbers in a header
  abbrev pub ChecksAs : List ℕ → Watched R → Result Header ReadFault → Type 0
  ChecksAs bytes input (Ok header) = ReadsSizes bytes input header
  ChecksAs bytes input (Err fault) = FaultsAt bytes input fault.line fault.kind

  -- what feeding a whole stream answers, of which these bytes came
  abbrev pub FeedsFrom : Fed → Watched R → Result (Unit {0}) ReadFault → Type 0
  FeedsFrom fed input (Ok u) = (fed.failed ≡ None) × (has_failed input ≡ false) × IsWhole fed.bytes input
  FeedsFrom fed input (Err fault) = FaultsAt fed.bytes input fault.line fault.kind

  -- as `ReadsAs`, of a packed file
  abbrev pub ReadsPlainAs : List ℕ → Watched R → Result PlainFile ReadFault → Type 0
  ReadsPlainAs bytes input (Ok file) = ReadsFile bytes input file
  ReadsPlainAs bytes input (Err fault) = FaultsAt bytes input fault.line fault.kind

  -- the file that all of a stream spells; a complete fault; or `Device` if the stream failed
  abbrev pub ReadsAs : List ℕ → Watched R → Result BidFile ReadFault → Type 0
  ReadsAs bytes input (Ok file) = ReadsFile bytes input (plain_file file)
  ReadsAs bytes input (Err fault) = FaultsAt bytes input fault.line fault.kind
