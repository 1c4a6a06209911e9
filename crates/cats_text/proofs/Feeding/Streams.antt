-- Reading a stream answers as the reader that was fed the bytes.
use Rattle.cats_text.proofs.Common.{rules, ◌≡◌, ℕ, false, List, take, Option, Some, IfSome, Result, Ok, Err, ◌⊎◌, inl, inr, refl, take_all, first_fault}
use Rattle.cats_text.proofs.Common.{fault_at, fed_fault, PlainFile, PackedAnswer, CheckAnswer, WantsMemory, FinishAnswer, has_failed, IsWhole}
use Rattle.cats_text.proofs.Common.{IsTextFault, FaultsAt, ReadsAs, ReadsPlainAs, ChecksAs, BidFile, Kind, Device, Memory, ReadFault, Header, MAX_STREAM}
use Rattle.cats_text.proofs.Common.{Watched}
use Rattle.cats_text.proofs.Texts.FaultKinds.{IsFaultOfBytes, first_fault-of_bytes, fed_fault-of_bytes, fed_within}

found : (fault : Option ReadFault) (e : ReadFault) → IfSome fault IsFaultOfBytes → fault ≡ Some e → IsFaultOfBytes e
found fault e h is = rw is at h

module _ {R : Type 0} (remaining : R → Option (List ℕ)) where
  reported_fault : (bytes : List ℕ) (input : Watched R) (line : ℕ) (kind : Kind) → has_failed input ≡ false → IsFaultOfBytes (fault_at line kind)
      → IsTextFault remaining bytes input (fault_at line kind) → FaultsAt remaining bytes input line kind
  reported_fault bytes input line Device works free text = absurd (free.0 refl)
  reported_fault bytes input line Memory works free text = absurd (free.1 refl)
  reported_fault bytes input line kind works free text = (works, text)

  memory_reported : (bytes : List ℕ) (input : Watched R) (e : ReadFault) → has_failed input ≡ false → WantsMemory (take MAX_STREAM bytes) e
      → FaultsAt remaining bytes input e.line e.kind
  memory_reported bytes input e works want = rw (want.0) (refl, works, want.1)

  -- the fault of feeding the bytes that came
  pub fed_reported : (bytes : List ℕ) (input : Watched R) (e : ReadFault) → has_failed input ≡ false
      → (fed_fault MAX_STREAM bytes ≡ Some e) ⊎ WantsMemory (take MAX_STREAM bytes) e → FaultsAt remaining bytes input e.line e.kind
  fed_reported bytes input e works (inl is) = reported_fault bytes input e.line e.kind works (search (rules, found, fed_fault-of_bytes)) (inl is)
  fed_reported bytes input e works (inr want) = memory_reported bytes input e works want

  -- the fault at the end of the bytes
  pub ended_reported : (bytes : List ℕ) (input : Watched R) (e : ReadFault) → has_failed input ≡ false → IsWhole remaining bytes input
      → (first_fault bytes ≡ Some e) ⊎ WantsMemory bytes e → FaultsAt remaining bytes input e.line e.kind
  ended_reported bytes input e works whole (inl is) =
      reported_fault bytes input e.line e.kind works (found (first_fault bytes) e (first_fault-of_bytes bytes) is) (inr (whole, is))
  ended_reported bytes input e works whole (inr want) = search (rules, memory_reported, take_all, fed_within)

  -- the answers at the end of the bytes
  pub finished_reported : (bytes : List ℕ) (input : Watched R) (answer : Result BidFile ReadFault) → has_failed input ≡ false → IsWhole remaining bytes input
      → FinishAnswer bytes answer → ReadsAs remaining bytes input answer
  finished_reported bytes input (Ok file) works whole spelled = record { spelled = spelled; whole = whole; works = works }
  finished_reported bytes input (Err e) works whole reported = ended_reported bytes input e works whole reported

  pub packed_reported : (bytes : List ℕ) (input : Watched R) (answer : Result PlainFile ReadFault) → has_failed input ≡ false
      → IsWhole remaining bytes input → PackedAnswer bytes answer → ReadsPlainAs remaining bytes input answer
  packed_reported bytes input (Ok file) works whole spelled = record { spelled = spelled; whole = whole; works = works }
  packed_reported bytes input (Err e) works whole reported = ended_reported bytes input e works whole reported

  pub checked_reported : (bytes : List ℕ) (input : Watched R) (answer : Result Header ReadFault) → has_failed input ≡ false
      → IsWhole remaining bytes input → CheckAnswer bytes answer → ChecksAs remaining bytes input answer
  checked_reported bytes input (Ok header) works whole says =
      record { file = says.file; reads = record { spelled = says.spells; whole = whole; works = works }; sizes = says.sizes }
  checked_reported bytes input (Err e) works whole reported = ended_reported bytes input e works whole reported
