-- What a run reads. It is which stream was opened at a path, and all bytes of a stream.
use Rattle.std.specs.Prelude.{◌≡◌, ◌⊎◌, ◌<◌, ◌≤◌, ℕ, true, false, List, length, Option, Result, Ok, Err, Vec}
use Rattle.std.specs.Global.{Global}
use Rattle.std.specs.Io.KnownBytes.{Consumes, IsAtEnd}
use Rattle.cats_text.specs.Streams.{inner_of, has_failed, has_ended}
use Rattle.cats_text.specs.declared.read_fault.Kind.{Kind}
use Rattle.cats_text.specs.declared.read_fault.Kind.TheVariants.{Device, TooLong, Memory as NoMemory}
use Rattle.cats_text.specs.declared.limits.TheConstants.{MAX_STREAM}
use Rattle.cats_text.specs.declared.stream.Watched.{Watched}
use Rattle.cats_text.specs.Faults.{fault_at}
use Rattle.cats_text.specs.declared.read_fault.ReadFault.{ReadFault}

-- a stream that was opened at this path and that no call has failed or ended yet
pub record IsOpened {R : Type 0} (may_open : List ℕ → R → Type 0) (path : List ℕ) (stream : Watched R) : Type 0 where
  pub opened : may_open path (inner_of stream)
  pub works : has_failed stream ≡ false
  pub fresh : has_ended stream ≡ false

-- ---- the bytes of a stream, all of them

module _ {R : Type 0} (remaining : R → Option (List ℕ)) where
  -- these bytes are all that the stream had, and no more than are read of one
  pub record ReadsAll (old new : Watched R) (bytes : List ℕ) : Type 0 where
    pub consumes : Consumes (remaining (inner_of old)) (remaining (inner_of new)) bytes
    pub within : length bytes ≤ MAX_STREAM
    pub ended : has_ended new ≡ true
    pub at_end : IsAtEnd (remaining (inner_of new))
    pub works : has_failed new ≡ false

  -- more bytes came than are read of a stream
  pub record ReadsTooMany (old new : Watched R) : Type 0 where
    pub bytes : List ℕ
    pub consumes : Consumes (remaining (inner_of old)) (remaining (inner_of new)) bytes
    pub beyond : MAX_STREAM < length bytes

  -- the stream failed, or more bytes came than are read of one
  abbrev pub StopsReading : Watched R → Watched R → ℕ → Kind → Type 0
  StopsReading old new line Device = (line ≡ 0) × (has_failed new ≡ true)
  StopsReading old new line TooLong = (line ≡ 0) × ReadsTooMany old new
  StopsReading old new line kind = ⊥

  -- memory is refused for bytes that came, and the stream has neither failed nor ended
  pub record WantsMemoryForBytes (old new : Watched R) : Type 0 where
    pub bytes : List ℕ
    pub consumes : Consumes (remaining (inner_of old)) (remaining (inner_of new)) bytes
    pub some : 0 < length bytes
    pub within : length bytes ≤ MAX_STREAM
    pub works : has_failed new ≡ false
    pub unended : has_ended new ≡ false

  -- why the bytes of a stream were not read
  abbrev pub IsUnreadStream : Watched R → Watched R → ReadFault → Type 0
  IsUnreadStream old new fault = StopsReading old new fault.line fault.kind
      ⊎ ((fault ≡ fault_at 0 NoMemory) × WantsMemoryForBytes old new)

  -- the contract of reading the bytes of a stream
  abbrev pub ReadsBytes : Watched R → Watched R → Result (Vec ℕ Global) ReadFault → Type 0
  ReadsBytes old new (Ok text) = ReadsAll old new text.items
  ReadsBytes old new (Err fault) = IsUnreadStream old new fault
