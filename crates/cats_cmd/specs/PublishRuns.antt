-- The run of `cats publish`. What cannot be written is refused before anything is, and then the files are published,
-- one after the other.
use Rattle.std.specs.Prelude.{◌≡◌, ◌⊎◌, ◌++◌, ℕ, Bool, true, List, [], ◌∷◌, map, codes, slice_get, unwrap_or, Option}
use Rattle.std.specs.Prelude.{Some}
use Rattle.std.specs.Prelude.{option_map, Result, Ok}
use Rattle.std.specs.List.{All}
use Rattle.std.specs.Str.{IsUtf8}
use Rattle.cats_text.specs.declared.stream.Watched.{Watched}
use Rattle.cats_cmd.specs.Escaping.{escaped}
use Rattle.cats_cmd.specs.FileLists.{WantsMemoryFirst}
use Rattle.cats_cmd.specs.Paths.{RunsOnPaths, Reporting, refusal_line}
use Rattle.cats_cmd.specs.Publishing.{Publishes}
use Rattle.cats_cmd.specs.Reports.{Reports}
use Rattle.cats_cmd.specs.Stores.{LacksText, Text, WritesEach, path_in}
use Rattle.cats_cmd.specs.TextPaths.{AreSeparate, AreTextPlaces, Collides, LeadsOut, PlacedText, leads_below, texts_at}
use Rattle.commands.specs.declared.faults.RunFault.{RunFault}
use Rattle.commands.specs.declared.faults.RunFault.TheVariants.{NotWritten}
use Rattle.commands.specs.declared.faults.Unopened.{Unopened}
use Rattle.commands.specs.declared.faults.Unwritten.{Unwritten}
use Rattle.commands.specs.declared.faults.Unwritten.TheVariants.{Exists}
use Rattle.rounding.specs.declared.replacement.PriceRule.{PriceRule}
use Rattle.valuation.specs.declared.search.options.SearchOptions.{SearchOptions}

-- the line on a file whose text would not be below the folder
abbrev pub outside_line : List ℕ → List ℕ
outside_line file = escaped file ++ codes ": cannot write: its text would not be below the folder\n"

-- the line on two files of which the text of the second would be at that of the first, or below it
abbrev pub collision_line : List ℕ → List ℕ → List ℕ
collision_line first second = escaped second ++ codes ": cannot write: its text would be at or below that of "
    ++ escaped first ++ codes "\n"

-- the file with this number
abbrev pub file_of : List PlacedText → ℕ → List ℕ
file_of places number = unwrap_or (option_map (λ p. p.file) (slice_get places number)) []

-- ---- why texts are refused

module _ {E : Type 0} (messages : E → Option (List ℕ)) (places : List PlacedText) (err err_after : Watched E) where
  -- the text of this file would not be below the folder, and the file is named
  pub record NamesOutside : Type 0 where
    pub number : ℕ
    pub leads_out : LeadsOut (texts_at places) number
    pub reports : Reports messages (outside_line (file_of places number)) err err_after

  -- the texts of these two files cannot both be written, and both are named
  pub record NamesCollision : Type 0 where
    pub first : ℕ
    pub second : ℕ
    pub collides : Collides (texts_at places) first second
    pub reports : Reports messages (collision_line (file_of places first) (file_of places second)) err err_after

  -- one or the other
  abbrev pub NamesMisplaced : Type 0
  NamesMisplaced = NamesOutside ⊎ NamesCollision

-- each text is below the folder, and no two of them collide
abbrev pub ArePlaced : List (List ℕ) → Type 0
ArePlaced texts = All (λ text. leads_below text ≡ true) texts × AreSeparate texts

-- Nothing is at the path of any of these texts, as far as it is known. One that is not UTF-8 is not written.
abbrev pub AreFree : Option (List Text) → List ℕ → List (List ℕ) → Type 0
AreFree known folder texts = All (λ text. IsUtf8 text → LacksText known (path_in folder text)) texts

-- `may_not_write` says why the store of all texts may not write at a path.
module _ (may_not_write : List ℕ → Unwritten → Type 0) (folder : List ℕ) (texts : List (List ℕ)) where
  -- the path is that of one of the texts, and something may be there
  pub record IsTaken (path : List ℕ) : Type 0 where
    pub number : ℕ
    pub text : List ℕ
    pub there : slice_get texts number ≡ Some text
    pub is : path ≡ path_in folder text
    pub may : may_not_write path Exists

  -- at this path, which is that of a text, or of the folder, nothing can be written for this reason
  abbrev pub CannotWrite : List ℕ → Unwritten → Type 0
  CannotWrite path why = ((why ≡ Exists) × IsTaken path) ⊎ ((path ≡ folder) × may_not_write folder why)

  -- this is named, with the reason
  pub record NamesUnwritten {E : Type 0} (messages : E → Option (List ℕ)) (err err_after : Watched E) : Type 0 where
    pub path : List ℕ
    pub why : Unwritten
    pub cannot : CannotWrite path why
    pub reports : Reports messages (refusal_line path (NotWritten why)) err err_after

-- ---- the run

-- `known_after` says which texts the store has then.
module _ {F W E : Type 0} (may_open : List ℕ → F → Type 0) (may_refuse : List ℕ → Unopened → Type 0)
    (remaining : F → Option (List ℕ)) (contents : W → Option (List ℕ)) (messages : E → Option (List ℕ))
    (may_not_write : List ℕ → Unwritten → Type 0) (known known_after : Option (List Text)) (options : SearchOptions)
    (prices : Option PriceRule) (all : Bool) (reporting : Reporting) (folder : List ℕ) where
  -- nothing was printed or written, as some text would lead out of the folder or two would collide, or as at a path of
  -- theirs nothing can be written
  pub record RefusesTexts (places : List PlacedText) (out out_after : Watched W) (err err_after : Watched E)
      (answer : Result ℕ RunFault) : Type 0 where
    pub silent : out_after ≡ out
    pub wrote : WritesEach may_not_write known known_after []
    pub why : ((answer ≡ Ok 64) × NamesMisplaced messages places err err_after)
        ⊎ ((answer ≡ Ok 5) × NamesUnwritten may_not_write folder (texts_at places) messages err err_after)

  -- all texts can be written, and the files were published: the table was printed, and its texts were written
  pub record PublishesFiles (places : List PlacedText) (out out_after : Watched W) (err err_after : Watched E)
      (answer : Result ℕ RunFault) : Type 0 where
    pub placed : ArePlaced (texts_at places)
    pub free : AreFree known folder (texts_at places)
    pub runs : RunsOnPaths may_open may_refuse remaining contents messages (Some options) prices
        (Publishes folder all places) (WritesEach may_not_write known known_after) (map (λ p. p.file) places) reporting
        (Publishes folder all places) out out_after err err_after answer

  -- the run on these files
  abbrev pub PublishesPlaces : List PlacedText → Watched W → Watched W → Watched E → Watched E → Result ℕ RunFault
      → Type 0
  PublishesPlaces places out out_after err err_after answer =
      RefusesTexts places out out_after err err_after answer ⊎ PublishesFiles places out out_after err err_after answer

  -- the run on the files at these paths
  pub record PublishesAt (may_find : List ℕ → Option (List (List ℕ)) → Type 0) (paths : List (List ℕ))
      (out out_after : Watched W) (err err_after : Watched E) (answer : Result ℕ RunFault) : Type 0 where
    pub places : List PlacedText
    pub are : AreTextPlaces may_find paths places
    pub runs : PublishesPlaces places out out_after err err_after answer

  -- it is this, or memory was refused first
  abbrev pub PublishesAtPaths : (List ℕ → Option (List (List ℕ)) → Type 0) → List (List ℕ) → Watched W → Watched W
      → Watched E → Watched E → Result ℕ RunFault → Type 0
  PublishesAtPaths may_find paths out out_after err err_after answer =
      PublishesAt may_find paths out out_after err err_after answer
      ⊎ WantsMemoryFirst (WritesEach may_not_write known known_after) out out_after err err_after answer
