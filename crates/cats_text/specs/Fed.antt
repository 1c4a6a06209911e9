-- What contracts see of a reader. It is the limit, the bytes that came, and the fault that it answered.
use Rattle.std.specs.Prelude.{ℕ, nat_le, if◌then◌else◌, List, length, take, Option, Some}
use Rattle.std.specs.Option.{option_or}
use Rattle.cats_text.specs.Faults.{complete_fault, fault_at}
use Rattle.cats_text.specs.declared.read_fault.ReadFault.{ReadFault}
use Rattle.cats_text.specs.declared.read_fault.Kind.TheVariants.{TooLong}

-- the fault of a reader with this limit that was fed these bytes
abbrev pub fed_fault : ℕ → List ℕ → Option ReadFault
fed_fault limit bytes =
    if nat_le (length bytes) limit then complete_fault bytes
    else option_or (complete_fault (take limit bytes)) (Some (fault_at 0 TooLong))

-- a reader: its limit, the bytes that came, and the fault that it answered
pub record Fed : Type 0 where
  pub limit : ℕ
  pub bytes : List ℕ
  pub failed : Option ReadFault
