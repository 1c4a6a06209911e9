-- What a reader keeps. The scanner has taken all bytes that came, unless a fault was answered.
use Rattle.std.specs.Prelude.{◌≡◌, ◌⊎◌, ◌<◌, ◌≤◌, ◌^◌, ℕ, List, length, Option, Some, None, Result, Ok, Err}
use Rattle.std.specs.Prelude.{MatchOption}
use Rattle.cats_text.specs.Faults.{first_fault, fault_at}
use Rattle.cats_text.specs.Grammar.{Spells}
use Rattle.bid_file.specs.Files.{PlainBid, PlainFile}
use Rattle.bid_file.specs.Views.{plain_file}
use Rattle.bid_file.specs.declared.bid.BidFile.{BidFile}
use Rattle.cats_text.specs.Keeps.{whole}
use Rattle.cats_text.specs.Views.{HasSizes}
use Rattle.cats_text.specs.Fed.{Fed}
use Rattle.cats_text.specs.Internal.Returns.{settled, waits}
use Rattle.cats_text.specs.Internal.Scanning.{state, first_state, scan}
use Rattle.cats_text.specs.declared.read_fault.Kind.{Kind}
use Rattle.cats_text.specs.declared.read_fault.ReadFault.{ReadFault}
use Rattle.cats_text.specs.declared.read_fault.Kind.TheVariants.{Memory}
use Rattle.cats_text.specs.declared.parser.Header.{Header}
use Rattle.cats_text.specs.declared.scanner.Scanner.{Scanner}
use Rattle.cats_text.specs.Reading.{WantsMemory}

-- the fault of a call that stopped at a line; want of memory is on no line
abbrev pub placed_fault : ℕ → Kind → ReadFault
placed_fault line Memory = fault_at 0 Memory
placed_fault line kind = fault_at line kind

-- the scanner, which keeps this of each bid, has taken these bytes
pub record HasTaken {K : Type 0} (keep : PlainBid → PlainBid) (limit taken : ℕ) (scanner : Scanner K)
    (bytes : List ℕ) : Type 0 where
  pub count : taken ≡ length bytes
  pub within : taken ≤ limit
  pub runs : scan (first_state keep) (settled bytes) ≡ Ok (state keep scanner)
  pub waiting : scanner.waiting ≡ waits bytes

pub record IsReading {K : Type 0} (keep : PlainBid → PlainBid) (most count : ℕ) (scanner : Scanner K)
    (failed : Option ReadFault) (bytes : List ℕ) : Type 0 where
  pub limit : most < 2 ^ 63
  pub taken : failed ≡ None → HasTaken keep most count scanner bytes

-- the file with a vector for each bid: memory may be refused if there are bids
abbrev pub Unpacks : PlainFile → Result BidFile ReadFault → Type 0
Unpacks file (Ok f) = plain_file f ≡ file
Unpacks file (Err e) = (e ≡ fault_at 0 Memory) × (0 < length file.bids)

-- the bytes spell a file whose header lines say this, and whose bids these are if each is kept whole
pub record SpellsParts (keep : PlainBid → PlainBid) (bytes : List ℕ) (header : Header)
    (bids : List PlainBid) : Type 0 where
  pub file : PlainFile
  pub spelled : Spells bytes file
  pub sizes : HasSizes header file
  pub bids_are : keep ≡ whole → bids ≡ file.bids

module _ {K : Type 0} (keep : PlainBid → PlainBid) (bids : K → List PlainBid) where
  abbrev pub PartsAnswer : List ℕ → Result (Header × K) ReadFault → Type 0
  PartsAnswer bytes (Ok parts) = SpellsParts keep bytes parts.0 (bids parts.1)
  PartsAnswer bytes (Err e) = (first_fault bytes ≡ Some e) ⊎ WantsMemory bytes e

  abbrev pub PartsAs : Fed → Result (Header × K) ReadFault → Type 0
  PartsAs fed r = MatchOption fed.failed (PartsAnswer fed.bytes r) (λ e. r ≡ Err e)
