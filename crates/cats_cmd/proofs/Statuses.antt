-- The statuses of faults: none is that of an answer.
use Rattle.cats_cmd.proofs.Common.{ℕ, ◌≤◌, arith, CanonFault, Device, Kind, Memory, Read, RunFault, Refused, StepLimit, status_of_canon_fault, status_of_fault}
use Rattle.cats_cmd.proofs.Common.{status_of_read_fault}
use Rattle.cats_text.specs.declared.read_fault.Kind.TheVariants.{Memory as NoMemory}

read_status_above : (kind : Kind) → 2 ≤ status_of_read_fault kind
read_status_above Device = omega arith
read_status_above NoMemory = omega arith
read_status_above kind = omega arith

canon_status_above : (fault : CanonFault) → 2 ≤ status_of_canon_fault fault
canon_status_above (Read fault) = read_status_above fault.kind
canon_status_above (StepLimit goods) = omega arith
canon_status_above Memory = omega arith

-- no fault has the status of an answer
pub fault_status_above : (fault : RunFault) → 2 ≤ status_of_fault fault
fault_status_above (Refused which fault) = canon_status_above fault
fault_status_above fault = omega arith
