-- How a fault of reading is reported.
use Rattle.cats_text.specs.declared.read_fault.Kind.{Kind}
use Rattle.cats_text.specs.declared.read_fault.Kind.TheVariants.{Memory as NoMemory}
use Rattle.cats_text.specs.declared.read_fault.ReadFault.{ReadFault}
use Rattle.canon.specs.declared.canon_fault.CanonFault.{CanonFault}
use Rattle.canon.specs.declared.canon_fault.CanonFault.TheVariants.{Read, Memory}

abbrev pub refusal_by_kind : ReadFault → Kind → CanonFault
refusal_by_kind fault NoMemory = Memory
refusal_by_kind fault kind = Read fault

-- a reader's fault as the call's own
abbrev pub refusal_of : ReadFault → CanonFault
refusal_of fault = refusal_by_kind fault fault.kind
