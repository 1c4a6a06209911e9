-- What comparing two texts answers. The first text comes first: if neither text has a canonical text, the first is
-- refused.
use Rattle.std.specs.Prelude.{◌≡◌, ℕ, List, None, Result, Ok, Err}
use Rattle.bid_file.specs.Files.{PlainFile}
use Rattle.cats_text.specs.Grammar.{Spells}
use Rattle.valuation.specs.Auctions.{auction_from, or_atoms_of}
use Rattle.prune.specs.SearchSteps.{first_refused}
use Rattle.valuation.specs.declared.search.options.SearchOptions.{SearchOptions}
use Rattle.canon.specs.Answers.{IsNormalFile, RefusesText}
use Rattle.canon.specs.Difference.{Difference, first_difference}
use Rattle.canon.specs.Verdicts.{NamesGoods, plain_verdict}
use Rattle.canon.specs.declared.canon_fault.CanonFault.{CanonFault}
use Rattle.canon.specs.declared.canon_fault.CanonFault.TheVariants.{Memory}
use Rattle.canon.specs.declared.verdict.Verdict.{Verdict}
use Rattle.canon.specs.declared.which.Which.{Which}
use Rattle.canon.specs.declared.which.Which.TheVariants.{Only, First, Second, Both}

-- the text spells a file of which no bundle is refused
pub record SpellsWithinLimit (options : SearchOptions) (text : List ℕ) : Type 0 where
  pub file : PlainFile
  pub spelled : Spells text file
  pub within_limit : first_refused options file.goods (or_atoms_of file.bids) ≡ None

-- both texts do, and this is the first difference of the auctions of their files
pub record Differ (options : SearchOptions) (one other : List ℕ) (difference : Difference) : Type 0 where
  pub first : SpellsWithinLimit options one
  pub second : SpellsWithinLimit options other
  pub is : first_difference (auction_from first.file) (auction_from second.file) ≡ difference

-- they differ in a bundle or in a bidder, of which the verdict names the goods
pub record DifferInGoods (options : SearchOptions) (one other : List ℕ) : Type 0 where
  pub difference : Difference
  pub differ : Differ options one other difference
  pub named : NamesGoods difference

-- Which text is refused, and why. The second is refused only if the first is not, and both only if neither is: by want
-- of memory, for the goods that their verdict names.
abbrev pub RefusesOf : SearchOptions → List ℕ → List ℕ → Which → CanonFault → Type 0
RefusesOf options one other Only fault = ⊥
RefusesOf options one other First fault = RefusesText options one fault
RefusesOf options one other Second fault = SpellsWithinLimit options one × RefusesText options other fault
RefusesOf options one other Both fault = DifferInGoods options one other × (fault ≡ Memory)

-- the first difference of two texts; or the refusal of the first, else of the second
abbrev pub ComparesAs : SearchOptions → List ℕ → List ℕ → Result Verdict (Which × CanonFault) → Type 0
ComparesAs options one other (Ok verdict) = Differ options one other (plain_verdict verdict)
ComparesAs options one other (Err refusal) = RefusesOf options one other refusal.0 refusal.1

-- ---- the steps

-- the canonical file of the file that the text spells, of which no bundle is refused
pub record IsNormalFileOf (options : SearchOptions) (text : List ℕ) (h : PlainFile) : Type 0 where
  pub file : PlainFile
  pub spelled : Spells text file
  pub normal : IsNormalFile options (auction_from file) h

abbrev pub ReadsNormalAs : SearchOptions → List ℕ → Result PlainFile CanonFault → Type 0
ReadsNormalAs options text (Ok h) = IsNormalFileOf options text h
ReadsNormalAs options text (Err fault) = RefusesText options text fault
