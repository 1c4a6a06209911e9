-- What a command on two files answers. The first file is read and made canonical before the second is read.
use Rattle.std.specs.Prelude.{◌≡◌, Result, Ok, Err}
use Rattle.bid_file.specs.Files.{PlainFile}
use Rattle.cats_text.specs.declared.read_fault.ReadFault.{ReadFault}
use Rattle.valuation.specs.Auctions.{auction_from}
use Rattle.valuation.specs.declared.search.options.SearchOptions.{SearchOptions}
use Rattle.canon.specs.Canonical.{canonical_file}
use Rattle.canon.specs.declared.canon_fault.CanonFault.{CanonFault}
use Rattle.canon.specs.declared.canon_fault.CanonFault.TheVariants.{Memory}
use Rattle.canon.specs.declared.which.Which.TheVariants.{First, Second, Both}
use Rattle.analysis.specs.Differences.{AreAllDifferences, PlainDifferences}
use Rattle.commands.specs.declared.faults.RunFault.{RunFault}
use Rattle.commands.specs.declared.faults.RunFault.TheVariants.{Refused, TooHeavy}
use Rattle.commands.specs.Commands.{GivesWithin, IsRefused, Makes, outcome_of_heavy_bid, text_of}
use Rattle.commands.specs.Outcomes.{Outcome, Prints}
use Rattle.commands.specs.Compare.{compare_outcome}
use Rattle.commands.specs.Diff.{diff_outcome}
use Rattle.commands.specs.Normalise.{naming_outcome}
use Rattle.commands.specs.Normalise.{normalise_outcome}
use Rattle.commands.specs.declared.answer.Answer.{Answer}
use Rattle.requests.specs.Requests.{PlainRequest}
use Rattle.requests.specs.declared.task.Task.{Task}
use Rattle.requests.specs.declared.task.Task.TheVariants.{Compare}

abbrev pub outcome_of_both : PlainFile × PlainFile → Outcome
outcome_of_both files = compare_outcome files.0 files.1

module _ {I J : Type 0} (gives_first : I → I → PlainFile → Type 0) (refuses_first : I → I → ReadFault → Type 0)
    (gives_second : J → J → PlainFile → Type 0) (refuses_second : J → J → ReadFault → Type 0)
    (options : SearchOptions) where
  -- both files were given, and of neither is a bundle refused
  abbrev pub GivesBoth : I → I → J → J → PlainFile × PlainFile → Type 0
  GivesBoth first first_after second second_after files =
      GivesWithin gives_first refuses_first options first first_after files.0
      × GivesWithin gives_second refuses_second options second second_after files.1

  -- the first file was refused for this reason, and the second was not read
  pub record RefusesFirst (refused : I → I → Type 0) (first first_after : I) (second second_after : J) : Type 0 where
    pub why : refused first first_after
    pub unread : second_after ≡ second

  -- the second file was refused for this reason, and the first was not
  pub record RefusesSecond (refused : J → J → Type 0) (first first_after : I) (second second_after : J) : Type 0 where
    pub left : PlainFile
    pub given : GivesWithin gives_first refuses_first options first first_after left
    pub why : refused second second_after

  -- neither file was refused, but memory for what is made of both
  pub record RefusesBoth (first first_after : I) (second second_after : J) (fault : CanonFault) : Type 0 where
    pub files : PlainFile × PlainFile
    pub given : GivesBoth first first_after second second_after files
    pub memory : fault ≡ Memory

  -- what was given, and what is made of it
  pub record MakesOfBoth {A : Type 0} (Gives : A → Type 0) (outcome : A → Outcome) (expected : Outcome) : Type 0 where
    pub given : A
    pub gives : Gives given
    pub made : outcome given ≡ expected

  -- The contract of a command, where `refusal` says how a file is refused alone, `Gives` what was given, and `outcome`
  -- what is made of it.
  abbrev pub CommandsBoth : {A : Type 0} → (PlainFile → Outcome) → (A → Type 0) → (A → Outcome) → I → I → J → J
      → Result Answer RunFault → Type 0
  CommandsBoth refusal Gives outcome first first_after second second_after (Ok answer) =
      MakesOfBoth Gives outcome (Prints answer.status (text_of answer.output))
  CommandsBoth refusal Gives outcome first first_after second second_after (Err (Refused First fault)) =
      RefusesFirst (λ old new. IsRefused gives_first refuses_first refusal old new fault) first first_after second
      second_after
  CommandsBoth refusal Gives outcome first first_after second second_after (Err (Refused Second fault)) =
      RefusesSecond (λ old new. IsRefused gives_second refuses_second refusal old new fault) first first_after second
      second_after
  CommandsBoth refusal Gives outcome first first_after second second_after (Err (Refused Both fault)) =
      RefusesBoth first first_after second second_after fault
  CommandsBoth refusal Gives outcome first first_after second second_after (Err (TooHeavy First heavy)) =
      RefusesFirst (λ old new. Makes gives_first refuses_first refusal old new (outcome_of_heavy_bid heavy)) first
      first_after second second_after
  CommandsBoth refusal Gives outcome first first_after second second_after (Err (TooHeavy Second heavy)) =
      RefusesSecond (λ old new. Makes gives_second refuses_second refusal old new (outcome_of_heavy_bid heavy)) first
      first_after second second_after
  CommandsBoth refusal Gives outcome first first_after second second_after (Err fault) = ⊥

  -- ---- a comparison

  -- what `cats compare` answers on two inputs, or which was refused and why
  abbrev pub Compares : I → I → J → J → Result Answer RunFault → Type 0
  Compares first first_after second second_after answer =
      CommandsBoth (normalise_outcome options) (GivesBoth first first_after second second_after) outcome_of_both first
      first_after second second_after answer

  -- ---- all differences

  -- both files were given, and these are all differences of their auctions
  pub record GivesDifferences (first first_after : I) (second second_after : J)
      (compared : PlainFile × PlainFile × PlainDifferences) : Type 0 where
    pub given : GivesBoth first first_after second second_after (compared.0, compared.1)
    pub all : AreAllDifferences (auction_from (canonical_file compared.0)) (auction_from (canonical_file compared.1))
        compared.2

  -- it refuses what a comparison refuses, and names the bid
  abbrev pub Diffs : I → I → J → J → Result Answer RunFault → Type 0
  Diffs first first_after second second_after answer =
      CommandsBoth (naming_outcome options) (GivesDifferences first first_after second second_after) diff_outcome first
      first_after second second_after answer

module _ {I J : Type 0} (gives_first : I → I → PlainFile → Type 0) (refuses_first : I → I → ReadFault → Type 0)
    (gives_second : J → J → PlainFile → Type 0) (refuses_second : J → J → ReadFault → Type 0) where
  -- the contract of each command
  abbrev pub CommandsBy : Task → SearchOptions → I → I → J → J → Result Answer RunFault → Type 0
  CommandsBy Compare options = Compares gives_first refuses_first gives_second refuses_second options
  CommandsBy task options = Diffs gives_first refuses_first gives_second refuses_second options

  -- what `compare` or `diff` answers on two inputs, as a request says
  abbrev pub CommandsOnBoth : PlainRequest → I → I → J → J → Result Answer RunFault → Type 0
  CommandsOnBoth request = CommandsBy request.task request.options
