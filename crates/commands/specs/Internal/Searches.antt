-- What looking for a best packing of a bundle answers.
use Rattle.std.specs.Prelude.{◌≡◌, false, true, ℕ, List, Result, Ok, Err}
use Rattle.valuation.specs.declared.atom.Atom.{Atom}
use Rattle.valuation.specs.declared.packing.Packing.{Packing}
use Rattle.valuation.specs.declared.search.options.SearchOptions.{SearchOptions}
use Rattle.valuation.specs.Values.{or_value, chosen_indices}
use Rattle.canon.specs.declared.canon_fault.CanonFault.{CanonFault}
use Rattle.canon.specs.declared.canon_fault.CanonFault.TheVariants.{Read, StepLimit, Memory}
use Rattle.commands.specs.Value.{is_refused}

-- the packing that is chosen
pub record IsChosen (atoms : List (Atom (List ℕ))) (bundle : List ℕ) (options : SearchOptions)
    (packing : Packing) : Type 0 where
  pub value : packing.value ≡ or_value atoms bundle
  pub members : packing.members.items ≡ chosen_indices atoms bundle
  pub within : is_refused options atoms bundle false ≡ false

abbrev pub SearchesAs : List (Atom (List ℕ)) → List ℕ → SearchOptions → Result Packing CanonFault → Type 0
SearchesAs atoms bundle options (Ok packing) = IsChosen atoms bundle options packing
SearchesAs atoms bundle options (Err (Read fault)) = ⊥
SearchesAs atoms bundle options (Err (StepLimit goods)) =
    (is_refused options atoms bundle true ≡ true) × (goods.items ≡ bundle)
SearchesAs atoms bundle options (Err Memory) = Unit {0}
