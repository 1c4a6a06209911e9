-- What a `Reader` answers.
use Rattle.std.specs.Prelude.{◌≡◌, ◌⊎◌, ℕ, List, ◌++◌, take, true, Some, None, Result, Ok, Err, MatchOption}
use Rattle.cats_text.specs.Faults.{first_fault, has_bid_line, fault_at}
use Rattle.cats_text.specs.Grammar.{Spells}
use Rattle.cats_text.specs.Views.{HasSizes}
use Rattle.bid_file.specs.Files.{PlainFile}
use Rattle.bid_file.specs.Views.{plain_file}
use Rattle.cats_text.specs.Fed.{fed_fault, Fed}
use Rattle.bid_file.specs.declared.bid.BidFile.{BidFile}
use Rattle.cats_text.specs.declared.parser.Header.{Header}
use Rattle.cats_text.specs.declared.read_fault.ReadFault.{ReadFault}
use Rattle.cats_text.specs.declared.read_fault.Kind.TheVariants.{Memory as NoMemory}

abbrev pub WantsMemory : List ℕ → ReadFault → Type 0
WantsMemory bytes e = (e ≡ fault_at 0 NoMemory) × (has_bid_line bytes ≡ true)

abbrev pub FeedAnswer : Fed → Result (Unit {0}) ReadFault → Type 0
FeedAnswer new (Ok u) = (fed_fault new.limit new.bytes ≡ None) × (new.failed ≡ None)
FeedAnswer new (Err e) = ((fed_fault new.limit new.bytes ≡ Some e) ⊎ WantsMemory (take new.limit new.bytes) e)
    × (new.failed ≡ Some e)

pub record FeedsOn (old : Fed) (piece : List ℕ) (new : Fed) (r : Result (Unit {0}) ReadFault) : Type 0 where
  pub limit : new.limit ≡ old.limit
  pub bytes : new.bytes ≡ old.bytes ++ piece
  pub answer : FeedAnswer new r

-- a piece was added, and the complete fault of all bytes is answered
--
-- A reader that has failed repeats its fault.
abbrev pub FeedsAs : Fed → List ℕ → Fed → Result (Unit {0}) ReadFault → Type 0
FeedsAs old piece new r = MatchOption old.failed (FeedsOn old piece new r) (λ e. (new ≡ old) × (r ≡ Err e))

-- the file that the bytes spell, or their first fault
abbrev pub FinishAnswer : List ℕ → Result BidFile ReadFault → Type 0
FinishAnswer bytes (Ok f) = Spells bytes (plain_file f)
FinishAnswer bytes (Err e) = (first_fault bytes ≡ Some e) ⊎ WantsMemory bytes e

-- at the end, the fault that was answered before, or else `FinishAnswer`
abbrev pub FinishesAs : Fed → Result BidFile ReadFault → Type 0
FinishesAs fed r = MatchOption fed.failed (FinishAnswer fed.bytes r) (λ e. r ≡ Err e)

-- as `FinishAnswer`, of a packed file
abbrev pub PackedAnswer : List ℕ → Result PlainFile ReadFault → Type 0
PackedAnswer bytes (Ok file) = Spells bytes file
PackedAnswer bytes (Err e) = (first_fault bytes ≡ Some e) ⊎ WantsMemory bytes e

-- the text spells a file whose header lines say this
pub record SpellsSizes (bytes : List ℕ) (header : Header) : Type 0 where
  pub file : PlainFile
  pub spells : Spells bytes file
  pub sizes : HasSizes header file

-- as `FinishAnswer`, of the numbers in a header
abbrev pub CheckAnswer : List ℕ → Result Header ReadFault → Type 0
CheckAnswer bytes (Ok header) = SpellsSizes bytes header
CheckAnswer bytes (Err e) = (first_fault bytes ≡ Some e) ⊎ WantsMemory bytes e

-- at the end, the fault that was answered before, or else `PackedAnswer`
abbrev pub PackedAs : Fed → Result PlainFile ReadFault → Type 0
PackedAs fed r = MatchOption fed.failed (PackedAnswer fed.bytes r) (λ e. r ≡ Err e)

-- at the end, the fault that was answered before, or else `CheckAnswer`
abbrev pub CheckedAs : Fed → Result Header ReadFault → Type 0
CheckedAs fed r = MatchOption fed.failed (CheckAnswer fed.bytes r) (λ e. r ≡ Err e)
