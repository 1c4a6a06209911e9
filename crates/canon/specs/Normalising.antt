-- What normalising a file or a text gives.
use Rattle.std.specs.Prelude.{◌≡◌, ℕ, List, Option, Some, None}
use Rattle.bid_file.specs.Files.{PlainFile}
use Rattle.cats_text.specs.Faults.{first_fault}
use Rattle.cats_text.specs.Grammar.{Spells}
use Rattle.cats_text.specs.declared.read_fault.ReadFault.{ReadFault}
use Rattle.valuation.specs.Auctions.{or_atoms_of}
use Rattle.prune.specs.SearchSteps.{first_refused}
use Rattle.valuation.specs.declared.search.options.SearchOptions.{SearchOptions}
use Rattle.canon.specs.Canonical.{canonical_file, canonical_text}
use Rattle.canon.specs.Sameness.{AreSameFiles}

-- what normalising a text gives: its first fault, the first bundle over the limits, or its canonical text
pub data Normalised : Type 0 where
  -- the text is not a bid file, by this fault
  IsNoFile : ReadFault → Normalised
  -- the search on the bundle of these goods takes more steps than its limits leave
  ExceedsSteps : List ℕ → Normalised
  -- the canonical text
  IsText : List ℕ → Normalised

abbrev pub unless_refused : PlainFile → Option (List ℕ) → Normalised
unless_refused f None = IsText (canonical_text f)
unless_refused f (Some goods) = ExceedsSteps goods

-- what normalising a file gives, as of a text
abbrev pub normalised_file : SearchOptions → PlainFile → Normalised
normalised_file options f = unless_refused f (first_refused options f.goods (or_atoms_of f.bids))

-- the text spells a file, of which this is the outcome
pub record HasOutcome (options : SearchOptions) (text : List ℕ) (outcome : Normalised) : Type 0 where
  pub file : PlainFile
  pub spelled : Spells text file
  pub is : normalised_file options file ≡ outcome

-- normalising the text by some searches has this outcome; each text has one (law), and one canonical text (law)
abbrev pub Normalises : SearchOptions → List ℕ → Normalised → Type 0
Normalises options text (IsNoFile fault) = first_fault text ≡ Some fault
Normalises options text outcome = HasOutcome options text outcome

-- the text has an outcome
pub record IsNormalised (options : SearchOptions) (text : List ℕ) : Type 0 where
  pub outcome : Normalised
  pub normalises : Normalises options text outcome

-- `out` spells the canonical file of the text's file, which is the same auction
pub record SpellsCanonicalFile (text out : List ℕ) : Type 0 where
  pub file : PlainFile
  pub spelled : Spells text file
  pub canonical_spelled : Spells out (canonical_file file)
  pub same : AreSameFiles file (canonical_file file)
