-- What reading an input answers. `gives` says which file it gave, and `refuses` why it gave none; both are of the input
-- before and after.
use Rattle.std.specs.Prelude.{ℕ, List, Option, Result, Ok, Err}
use Rattle.std.specs.Io.KnownBytes.{Consumes}
use Rattle.bid_file.specs.Files.{PlainFile}
use Rattle.cats_text.specs.Streams.{FaultsAt, ReadsFile, inner_of}
use Rattle.cats_text.specs.Views.{HasSizes}
use Rattle.cats_text.specs.declared.parser.Header.{Header}
use Rattle.cats_text.specs.declared.read_fault.ReadFault.{ReadFault}
use Rattle.cats_text.specs.declared.stream.Watched.{Watched}

module _ {I : Type 0} (gives : I → I → PlainFile → Type 0) (refuses : I → I → ReadFault → Type 0) where
  -- reading an input gave this file, or this fault
  abbrev pub ReadsAs : I → I → Result PlainFile ReadFault → Type 0
  ReadsAs old new (Ok file) = gives old new file
  ReadsAs old new (Err fault) = refuses old new fault

  -- a file was given whose header lines say this
  pub record GivesSizes (old new : I) (header : Header) : Type 0 where
    pub file : PlainFile
    pub given : gives old new file
    pub sizes : HasSizes header file

  -- reading an input gave a file with these numbers, or this fault
  abbrev pub ChecksAs : I → I → Result Header ReadFault → Type 0
  ChecksAs old new (Ok header) = GivesSizes old new header
  ChecksAs old new (Err fault) = refuses old new fault

-- ---- a stream

module _ {R : Type 0} (remaining : R → Option (List ℕ)) where
  -- the bytes that were read spell the file
  pub record StreamGives (old new : Watched R) (file : PlainFile) : Type 0 where
    pub bytes : List ℕ
    pub consumes : Consumes (remaining (inner_of old)) (remaining (inner_of new)) bytes
    pub reads : ReadsFile remaining bytes new file

  -- the bytes that were read, or the stream itself, have this fault
  pub record StreamRefuses (old new : Watched R) (fault : ReadFault) : Type 0 where
    pub bytes : List ℕ
    pub consumes : Consumes (remaining (inner_of old)) (remaining (inner_of new)) bytes
    pub faults : FaultsAt remaining bytes new fault.line fault.kind
