-- What contracts see of the sizes of a file, and of the place of a fault.
use Rattle.std.specs.Prelude.{◌≡◌, length}
use Rattle.bid_file.specs.Files.{PlainFile}
use Rattle.cats_text.specs.FaultPlaces.{PlainPlace}
use Rattle.cats_text.specs.declared.fault_place.FaultPlace.{FaultPlace}
use Rattle.cats_text.specs.declared.parser.Header.{Header}

-- the header lines of the file say this
pub record HasSizes (header : Header) (file : PlainFile) : Type 0 where
  pub goods : header.goods ≡ file.goods
  pub bids : header.bids ≡ length file.bids
  pub dummy : header.dummy ≡ file.dummy

-- a place of the code as a value
abbrev pub plain_place : FaultPlace → PlainPlace
plain_place place = record { line = place.line; word = place.word; text = place.text.now; kind = place.kind }
