-- The parts of a command on two files.
use Rattle.std.specs.Prelude.{◌≡◌, Result, Ok, Err}
use Rattle.bid_file.specs.Files.{PlainFile}
use Rattle.cats_text.specs.declared.read_fault.ReadFault.{ReadFault}
use Rattle.valuation.specs.declared.search.options.SearchOptions.{SearchOptions}
use Rattle.canon.specs.declared.canon_fault.CanonFault.{CanonFault}
use Rattle.canon.specs.declared.which.Which.{Which}
use Rattle.commands.specs.declared.faults.RunFault.{RunFault}
use Rattle.commands.specs.declared.faults.RunFault.TheVariants.{Refused, TooHeavy}
use Rattle.commands.specs.declared.diff.sides.ComparedFile.{ComparedFile}
use Rattle.commands.specs.Commands.{GivesWithin, IsRefused, Makes, outcome_of_heavy_bid}
use Rattle.commands.specs.Normalise.{naming_outcome}

-- the answer, where a fault is of this file
abbrev pub of_file : {T : Type 0} → Which → Result T CanonFault → Result T RunFault
of_file which (Ok given) = Ok given
of_file which (Err fault) = Err (Refused which fault)

-- reading a file of a command on two and making its canonical file, where the command names the bid whose bundle is
-- refused
module _ {I : Type 0} (gives : I → I → PlainFile → Type 0) (refuses : I → I → ReadFault → Type 0)
    (options : SearchOptions) (of : Which) where
  abbrev pub ReadsCompared : I → I → Result ComparedFile RunFault → Type 0
  ReadsCompared old new (Ok compared) = GivesWithin gives refuses options old new compared.file
  ReadsCompared old new (Err (Refused which fault)) =
      (which ≡ of) × IsRefused gives refuses (naming_outcome options) old new fault
  ReadsCompared old new (Err (TooHeavy which heavy)) =
      (which ≡ of) × Makes gives refuses (naming_outcome options) old new (outcome_of_heavy_bid heavy)
  ReadsCompared old new (Err fault) = ⊥
