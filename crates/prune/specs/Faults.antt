-- What a fault of a pruning says.
use Rattle.prune.specs.declared.prune_fault.PruneFault.{PruneFault}
use Rattle.prune.specs.declared.prune_fault.PruneFault.TheVariants.{StepLimit, Memory}

-- if the fault is a step limit, this holds of its bundle
abbrev pub IfStepLimit : {S : Type 0} → PruneFault S → (S → Type 0) → Type 0
IfStepLimit (StepLimit bundle) P = P bundle
IfStepLimit Memory P = Unit {0}
