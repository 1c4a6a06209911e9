-- What became of one of many files.
use Rattle.std.specs.Prelude.{◌≡◌, ℕ, List, Option, Some, None, Result, Ok, Err, option_map}
use Rattle.bid_file.specs.Files.{PlainFile}
use Rattle.cats_text.specs.FaultPlaces.{fault_of, first_place}
use Rattle.cats_text.specs.declared.read_fault.ReadFault.{ReadFault}
use Rattle.valuation.specs.declared.search.options.SearchOptions.{SearchOptions}
use Rattle.canon.specs.Canonical.{canonical_file}
use Rattle.canon.specs.Refusals.{refusal_of}
use Rattle.canon.specs.declared.canon_fault.CanonFault.TheVariants.{Read, StepLimit}
use Rattle.canon.specs.declared.which.Which.TheVariants.{Only}
use Rattle.commands.specs.Commands.{Commands, GivesWithin, outcome_of_heavy_bid}
use Rattle.commands.specs.Normalise.{naming_outcome, normalise_outcome}
use Rattle.commands.specs.declared.faults.HeavyBid.{HeavyBid}
use Rattle.commands.specs.declared.faults.RunFault.{RunFault}
use Rattle.commands.specs.declared.faults.RunFault.TheVariants.{NotWritten, Refused, TooHeavy}
use Rattle.commands.specs.declared.faults.Unwritten.{Unwritten}

-- how many prices of a published file were rounded, how many of these became 0, and why its text was not written
pub record Publishing : Type 0 where
  pub rounded : ℕ
  pub zeroed : ℕ
  pub unwritten : Option Unwritten

-- what became of one of many files: judged, refused by a limit at a bid, or not read
pub data Judgement : Type 0 where
  -- this file was read, and no bundle of it is refused
  IsJudged : PlainFile → Judgement
  -- this file was read, and the bundle of this bid is the first that is refused
  IsHeavy : PlainFile → HeavyBid → Judgement
  -- no file was read, or memory was refused, for this fault
  IsUnjudged : RunFault → Judgement
  -- no file was made: these are all bytes, and the text that is judged of them; or they were not read, for this fault
  IsRead : Result (List ℕ × List ℕ) ReadFault → Judgement
  -- this file was judged as `IsJudged`, to be published
  IsPublished : PlainFile → Publishing → Judgement

-- the file, if it was read
abbrev pub file_read : Judgement → Option PlainFile
file_read (IsJudged file) = Some file
file_read (IsHeavy file heavy) = Some file
file_read (IsUnjudged fault) = None
file_read (IsRead answer) = None
file_read (IsPublished file publishing) = Some file

-- its canonical file, if no step limit stopped it
abbrev pub canonical_known : Judgement → Option PlainFile
canonical_known (IsJudged file) = Some (canonical_file file)
canonical_known (IsHeavy file heavy) = None
canonical_known (IsUnjudged fault) = None
canonical_known (IsRead answer) = None
canonical_known (IsPublished file publishing) = Some (canonical_file file)

-- why bytes are not a bid file, or were not read
abbrev pub fault_read : Result (List ℕ × List ℕ) ReadFault → Option RunFault
fault_read (Ok texts) = option_map (λ place. Refused Only (Read (fault_of place))) (first_place texts.1)
fault_read (Err fault) = Some (Refused Only (refusal_of fault))

-- why the file was not judged, or has a fault
abbrev pub fault_judged : Judgement → Option RunFault
fault_judged (IsJudged file) = None
fault_judged (IsHeavy file heavy) = Some (TooHeavy Only heavy)
fault_judged (IsUnjudged fault) = Some fault
fault_judged (IsRead answer) = fault_read answer
fault_judged (IsPublished file publishing) = option_map NotWritten publishing.unwritten

-- Reading an input gives this. Of no input but one that gives a file is a bundle refused.
module _ {I : Type 0} (gives : I → I → PlainFile → Type 0) (refuses : I → I → ReadFault → Type 0)
    (options : SearchOptions) where
  -- reading an input gives this judgement
  abbrev pub JudgesInput : I → I → Judgement → Type 0
  JudgesInput before after (IsJudged file) = GivesWithin gives refuses options before after file
  JudgesInput before after (IsHeavy file heavy) = gives before after file
      × (naming_outcome options file ≡ outcome_of_heavy_bid heavy)
  JudgesInput before after (IsUnjudged (Refused which (StepLimit goods))) = ⊥
  JudgesInput before after (IsUnjudged (TooHeavy which heavy)) = ⊥
  JudgesInput before after (IsUnjudged fault) =
      Commands gives refuses (normalise_outcome options) before after (Err fault)
  JudgesInput before after (IsRead answer) = ⊥
  JudgesInput before after (IsPublished file publishing) = ⊥
