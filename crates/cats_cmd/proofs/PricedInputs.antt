-- Memory that is refused in reading a text whose prices were rounded is on no line. No price of a file is rounded whose prices are read as
-- they are written.
use Rattle.cats_cmd.proofs.Common.{◌≡◌, ◌⊎◌, ℕ, List, Option, Some, None, ap, subst, ⊎_elim, IfSome, PlainFile, IsFaultOfBytes, first_fault-of_bytes}
use Rattle.cats_cmd.proofs.Common.{first_fault, WantsMemory, ReadFault, PriceRule, PricedGives, gives_by, PricedInput, none_rounded}
use Rattle.cats_text.specs.declared.read_fault.Kind.TheVariants.{Memory}

pub memory_on_no_line : (text : List ℕ) (fault : ReadFault) → (first_fault text ≡ Some fault) ⊎ WantsMemory text fault → fault.kind ≡ Memory → fault.line ≡ 0
memory_on_no_line text fault why is =
    ⊎_elim
    (λ (found : first_fault text ≡ Some fault).
    absurd ((subst (λ (f : Option ReadFault). IfSome f IsFaultOfBytes) found (first_fault-of_bytes text)).1 is))
    (λ (wants : WantsMemory text fault). ap (λ (f : ReadFault). f.line) wants.0)
    why

pub none_given : {F : Type 0} (remaining : F → Option (List ℕ)) (old new : PricedInput F) → old.rule ≡ None → (file : PlainFile)
    → PricedGives remaining old new file → new.rounded ≡ none_rounded
none_given remaining old new written file given = (subst (λ (rule : Option PriceRule). gives_by remaining rule old new file) written given).count
