-- What a command on one file answers.
use Rattle.std.specs.Prelude.{◌≡◌, ◌≢◌, ◌⊎◌, ℕ, Bool, true, false, List, Result, Ok, Err, None}
use Rattle.bid_file.specs.Files.{PlainFile, IsPlainFile}
use Rattle.cats_text.specs.Faults.{fault_at}
use Rattle.cats_text.specs.Layout.{layout}
use Rattle.cats_text.specs.declared.read_fault.Kind.TheVariants.{Memory as NoMemory}
use Rattle.cats_text.specs.declared.read_fault.ReadFault.{ReadFault}
use Rattle.valuation.specs.Auctions.{or_atoms_of}
use Rattle.valuation.specs.declared.search.options.SearchOptions.{SearchOptions}
use Rattle.prune.specs.SearchSteps.{first_refused}
use Rattle.canon.specs.Canonical.{canonical_file}
use Rattle.canon.specs.declared.canon_fault.CanonFault.{CanonFault}
use Rattle.canon.specs.declared.canon_fault.CanonFault.TheVariants.{Read, StepLimit, Memory}
use Rattle.canon.specs.declared.which.Which.TheVariants.{Only}
use Rattle.commands.specs.declared.faults.HeavyBid.{HeavyBid}
use Rattle.commands.specs.declared.faults.RunFault.{RunFault}
use Rattle.commands.specs.declared.faults.RunFault.TheVariants.{Refused, TooHeavy, GoodRange, BidRange}
use Rattle.commands.specs.Outcomes.{Outcome, Prints, LacksGood, LacksBid, ExceedsSteps, ExceedsAtBid}
use Rattle.commands.specs.Normalise.{normalise_outcome}
use Rattle.commands.specs.Normalise.{outcome_within}
use Rattle.commands.specs.declared.answer.Answer.{Answer}
use Rattle.commands.specs.declared.answer.Output.{Output}
use Rattle.commands.specs.declared.answer.Output.TheVariants.{Text, File}

-- what an answer prints: its text, or the layout of its file
abbrev pub text_of : Output → List ℕ
text_of (Text text) = text.items
text_of (File file) = layout file

-- the limit and the bid that are named, and its bundle
abbrev pub outcome_of_heavy_bid : HeavyBid → Outcome
outcome_of_heavy_bid heavy = ExceedsAtBid heavy.limit heavy.number heavy.goods.items

-- An input that gives a file, of which `outcome` says what is made.
module _ {I : Type 0} (gives : I → I → PlainFile → Type 0) (refuses : I → I → ReadFault → Type 0)
    (outcome : PlainFile → Outcome) where
  -- a file was given
  pub record GivesSome (old new : I) : Type 0 where
    pub file : PlainFile
    pub given : gives old new file

  -- a file was given, of which this is made
  pub record Makes (old new : I) (expected : Outcome) : Type 0 where
    pub file : PlainFile
    pub given : gives old new file
    pub made : outcome file ≡ expected

  -- Reading or making refused the file. Memory is refused in reading, or in what is made of a file that was given.
  abbrev pub IsRefused : I → I → CanonFault → Type 0
  IsRefused old new (Read fault) = (fault.kind ≢ NoMemory) × refuses old new fault
  IsRefused old new (StepLimit goods) = Makes old new (ExceedsSteps goods.items)
  IsRefused old new Memory = refuses old new (fault_at 0 NoMemory) ⊎ GivesSome old new

  -- what a command on one input answers, or why that was refused
  --
  -- It goes from the input before to that after.
  abbrev pub Commands : I → I → Result Answer RunFault → Type 0
  Commands old new (Ok answer) = Makes old new (Prints answer.status (text_of answer.output))
  Commands old new (Err (Refused which fault)) = (which ≡ Only) × IsRefused old new fault
  Commands old new (Err (TooHeavy which heavy)) = (which ≡ Only) × Makes old new (outcome_of_heavy_bid heavy)
  Commands old new (Err (GoodRange good)) = Makes old new (LacksGood good)
  Commands old new (Err (BidRange bid)) = Makes old new (LacksBid bid)
  Commands old new (Err fault) = ⊥

-- whether an answer is that a search met its limit
abbrev pub has_met_limit : Result Answer RunFault → Bool
has_met_limit (Err (Refused which (StepLimit goods))) = true
has_met_limit (Err (TooHeavy which heavy)) = true
has_met_limit answer = false

-- as `Commands`, when `outcome` depends on whether a search met its limit: it did if the answer says so
abbrev pub CommandsIfMet : {I : Type 0} → (I → I → PlainFile → Type 0) → (I → I → ReadFault → Type 0)
    → (Bool → PlainFile → Outcome) → I → I → Result Answer RunFault → Type 0
CommandsIfMet gives refuses outcome old new answer =
    Commands gives refuses (outcome (has_met_limit answer)) old new answer

-- ---- a canonical file

module _ {I : Type 0} (gives : I → I → PlainFile → Type 0) (refuses : I → I → ReadFault → Type 0)
    (options : SearchOptions) where
  -- a file was given of which no bundle is refused
  pub record GivesWithin (old new : I) (file : PlainFile) : Type 0 where
    pub given : gives old new file
    pub within : first_refused options file.goods (or_atoms_of file.bids) ≡ None

  -- a file was given, and this is its canonical file
  pub record GivesCanonical (old new : I) (canonical : PlainFile) : Type 0 where
    pub file : PlainFile
    pub given : GivesWithin old new file
    pub plain : IsPlainFile file
    pub is : canonical ≡ canonical_file file

  -- reading a file and making it canonical
  abbrev pub ReadsCanonical : I → I → Result PlainFile CanonFault → Type 0
  ReadsCanonical old new (Ok canonical) = GivesCanonical old new canonical
  ReadsCanonical old new (Err fault) = IsRefused gives refuses (normalise_outcome options) old new fault

  -- what refuses a file refuses it for each command that prints a text of its canonical file
  abbrev pub IsRefusedAlike : I → I → CanonFault → Type 0
  IsRefusedAlike old new fault = (text : PlainFile → List ℕ)
      → IsRefused gives refuses (λ file. outcome_within options ExceedsSteps (text file) file) old new fault
