-- The exit statuses of faults, as users know them. They are written out here, and the code's constants are proved to be
-- these.
use Rattle.std.specs.Prelude.{ℕ}
use Rattle.cats_text.specs.declared.read_fault.Kind.{Kind}
use Rattle.cats_text.specs.declared.read_fault.Kind.TheVariants.{Device, Memory as NoMemory}
use Rattle.canon.specs.declared.canon_fault.CanonFault.{CanonFault}
use Rattle.canon.specs.declared.canon_fault.CanonFault.TheVariants.{Read, StepLimit, Memory}
use Rattle.commands.specs.declared.faults.RunFault.{RunFault}
use Rattle.commands.specs.declared.faults.RunFault.TheVariants.{NotOpened, Refused, TooHeavy, GoodRange, BidRange, Sent}
use Rattle.commands.specs.declared.faults.RunFault.TheVariants.{NotWritten}

abbrev pub status_of_read_fault : Kind → ℕ
status_of_read_fault Device = 5
status_of_read_fault NoMemory = 4
status_of_read_fault kind = 2

abbrev pub status_of_canon_fault : CanonFault → ℕ
status_of_canon_fault (Read fault) = status_of_read_fault fault.kind
status_of_canon_fault (StepLimit goods) = 3
status_of_canon_fault Memory = 4

-- the exit status of a fault
abbrev pub status_of_fault : RunFault → ℕ
status_of_fault (NotOpened which why) = 5
status_of_fault (Refused which fault) = status_of_canon_fault fault
status_of_fault (TooHeavy which heavy) = 3
status_of_fault (GoodRange good) = 64
status_of_fault (BidRange bid) = 64
status_of_fault (Sent fault) = 5
status_of_fault (NotWritten why) = 5
