-- The parts of a run of `cats publish`.
use Rattle.std.specs.Prelude.{◌⊎◌, ℕ, Bool, true, false, List, Option, Some, None, Result, Vec}
use Rattle.std.specs.Global.{Global}
use Rattle.std.specs.Str.{IsUtf8}
use Rattle.cats_text.specs.declared.stream.Watched.{Watched}
use Rattle.cats_cmd.specs.FileLists.{WantsMemoryFirst}
use Rattle.cats_cmd.specs.Paths.{Reporting}
use Rattle.cats_cmd.specs.PublishRuns.{AreFree, CannotWrite, IsTaken, PublishesPlaces}
use Rattle.cats_cmd.specs.Stores.{LacksText, Text, WritesEach, path_in}
use Rattle.cats_cmd.specs.TextPaths.{PlacedText}
use Rattle.commands.specs.declared.faults.RunFault.{RunFault}
use Rattle.commands.specs.declared.faults.Unopened.{Unopened}
use Rattle.commands.specs.declared.faults.Unwritten.{Unwritten}
use Rattle.commands.specs.declared.faults.Unwritten.TheVariants.{Exists}
use Rattle.rounding.specs.declared.replacement.PriceRule.{PriceRule}
use Rattle.valuation.specs.declared.search.options.SearchOptions.{SearchOptions}

module _ (may_not_write : List ℕ → Unwritten → Type 0) (known : Option (List Text)) (folder : List ℕ) where
  -- whether something may be at the path of a text
  abbrev pub IsTakenAt : List ℕ → Bool → Type 0
  IsTakenAt text true = may_not_write (path_in folder text) Exists
  IsTakenAt text false = IsUtf8 text → LacksText known (path_in folder text)

  -- the path of a text at which something may be; without one nothing is at that of any
  abbrev pub FindsTaken : List (List ℕ) → Option (Vec ℕ Global) → Type 0
  FindsTaken texts None = AreFree known folder texts
  FindsTaken texts (Some path) = IsTaken may_not_write folder texts path.items

  -- a path at which nothing can be written, with the reason, or nothing is at the path of any text
  abbrev pub FindsUnwritten : List (List ℕ) → Option (Vec ℕ Global × Unwritten) → Type 0
  FindsUnwritten texts None = AreFree known folder texts
  FindsUnwritten texts (Some found) = CannotWrite may_not_write folder texts found.0.items found.1

module _ {F W E : Type 0} (may_open : List ℕ → F → Type 0) (may_refuse : List ℕ → Unopened → Type 0)
    (remaining : F → Option (List ℕ)) (contents : W → Option (List ℕ)) (messages : E → Option (List ℕ))
    (may_not_write : List ℕ → Unwritten → Type 0) (known known_after : Option (List Text)) (options : SearchOptions)
    (prices : Option PriceRule) (all : Bool) (reporting : Reporting) (folder : List ℕ) where
  -- the run on these files, or memory was refused first
  abbrev pub PublishesInto : List PlacedText → Watched W → Watched W → Watched E → Watched E → Result ℕ RunFault
      → Type 0
  PublishesInto places out out_after err err_after answer =
      PublishesPlaces may_open may_refuse remaining contents messages may_not_write known known_after options prices all
      reporting folder places out out_after err err_after answer
      ⊎ WantsMemoryFirst (WritesEach may_not_write known known_after) out out_after err err_after answer
