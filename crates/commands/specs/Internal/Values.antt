-- Making a text of values.
use Rattle.std.specs.Prelude.{◌≡◌, Bool, false, true, ℕ, Result, Ok, Err, Vec}
use Rattle.std.specs.Global.{Global}
use Rattle.canon.specs.declared.canon_fault.CanonFault.{CanonFault}
use Rattle.canon.specs.declared.canon_fault.CanonFault.TheVariants.{Read, StepLimit, Memory}
use Rattle.commands.specs.Outcomes.{Outcome, Prints, ExceedsSteps}

-- Making the whole text, when this is to come of it, by whether the search for the value met its limit. Memory may be
-- refused in place of either outcome.
abbrev pub MakesAs : (Bool → Outcome) → Result (Vec ℕ Global) CanonFault → Type 0
MakesAs outcome (Ok text) = outcome false ≡ Prints 0 text.items
MakesAs outcome (Err (Read fault)) = ⊥
MakesAs outcome (Err (StepLimit goods)) = outcome true ≡ ExceedsSteps goods.items
MakesAs outcome (Err Memory) = Unit {0}
