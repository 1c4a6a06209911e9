-- What `cats publish` keeps of the files so far, and what becomes of one more.
use Rattle.std.specs.Prelude.{◌≡◌, ◌+◌, ◌++◌, ℕ, List, [], ◌∷◌, codes, length, Option, Some, None, Result, Ok, Err}
use Rattle.std.specs.Prelude.{is_none, option_map}
use Rattle.bid_file.specs.Files.{PlainFile}
use Rattle.prune.specs.SearchSteps.{first_refused}
use Rattle.valuation.specs.Auctions.{or_atoms_of}
use Rattle.valuation.specs.declared.search.options.SearchOptions.{SearchOptions}
use Rattle.canon.specs.Canonical.{canonical_file, canonical_text}
use Rattle.canon.specs.FirstNumbers.{IsIndexOf, first_number}
use Rattle.canon.specs.declared.canon_fault.CanonFault.{CanonFault}
use Rattle.canon.specs.declared.canon_fault.CanonFault.TheVariants.{Memory, Read, StepLimit}
use Rattle.canon.specs.declared.which.Which.TheVariants.{Only}
use Rattle.cats_cmd.specs.Duplicates.{judged_files, judged_paths}
use Rattle.cats_cmd.specs.Escaping.{escaped}
use Rattle.cats_cmd.specs.Folders.{paths_of}
use Rattle.cats_cmd.specs.Internal.TextNumbers.{plain_places}
use Rattle.cats_cmd.specs.Publishing.{Publishes, attempt_at, same_as, text_path}
use Rattle.cats_cmd.specs.SizesTables.{fault_cell}
use Rattle.cats_cmd.specs.Stores.{Attempt}
use Rattle.cats_cmd.specs.TextPaths.{PlacedText}
use Rattle.cats_cmd.specs.declared.paths.ManyFiles.{ManyFiles}
use Rattle.cats_cmd.specs.declared.paths.Target.{Target}
use Rattle.cats_cmd.specs.declared.priced_input.RoundedCount.{RoundedCount}
use Rattle.cats_cmd.specs.declared.publish.Published.{Published}
use Rattle.cats_cmd.specs.declared.publish.Publisher.{Publisher}
use Rattle.cats_cmd.specs.declared.publish.Row.{Row}
use Rattle.commands.specs.Commands.{outcome_of_heavy_bid}
use Rattle.commands.specs.Judgements.{Judgement, IsHeavy, IsPublished, IsUnjudged, Publishing}
use Rattle.commands.specs.Normalise.{naming_outcome}
use Rattle.commands.specs.Outputs.{number_cell}
use Rattle.commands.specs.Sizes.{cells}
use Rattle.commands.specs.declared.faults.RunFault.{RunFault}
use Rattle.commands.specs.declared.faults.RunFault.TheVariants.{NotWritten, Refused}
use Rattle.commands.specs.declared.faults.Unwritten.{Unwritten}

-- the auctions of the files that were judged, and their paths
pub record KeepsAuctions (publisher : Publisher) (judgements : List (List ℕ × Judgement)) : Type 0 where
  pub is_index : IsIndexOf canonical_text publisher.index (judged_files judgements)
  pub paths : paths_of publisher.judged.items ≡ judged_paths judgements

-- the same, and how many files there were
pub record KeepsPublished (publisher : Publisher) (judgements : List (List ℕ × Judgement)) : Type 0 where
  pub auctions : KeepsAuctions publisher judgements
  pub count : publisher.count ≡ length judgements

abbrev pub with_file_counted : Publisher → Publisher
with_file_counted publisher =
    record { index = publisher.index; judged = publisher.judged; count = publisher.count + 1 }

-- ---- where texts are written

abbrev pub folder_of : Option Target → List ℕ
folder_of None = []
folder_of (Some target) = target.folder.now

abbrev pub places_of : Option Target → List PlacedText
places_of None = []
places_of (Some target) = plain_places target.places.now

abbrev pub text_path_for : ManyFiles → ℕ → List ℕ
text_path_for many number = text_path (places_of many.target) number

-- what is printed and written, in the words of a run on many files
abbrev pub PublishesFor : ManyFiles → List (List ℕ × Judgement) → List ℕ → List Attempt → Type 0
PublishesFor many judgements printed attempts =
    Publishes (folder_of many.target) many.all (places_of many.target) judgements printed attempts

-- ---- rows

-- the cells of a row
pub record PlainRow : Type 0 where
  pub path : List ℕ
  pub text : List ℕ
  pub same_as : List ℕ
  pub goods : Option ℕ
  pub bids : Option ℕ
  pub kept : Option ℕ
  pub rounded : Option ℕ
  pub zeroed : Option ℕ

abbrev pub plain_row : Row → PlainRow
plain_row row = record {
  path = row.path.now;
  text = row.text.now;
  same_as = row.same_as.now;
  goods = row.goods;
  bids = row.bids;
  kept = row.kept;
  rounded = row.rounded;
  zeroed = row.zeroed;
}

-- a row, with the fault behind its cells
abbrev pub row_line : PlainRow → Option RunFault → List ℕ
row_line row fault = cells (escaped row.path ∷ escaped row.text ∷ escaped row.same_as ∷ number_cell row.goods
    ∷ number_cell row.bids ∷ number_cell row.kept ∷ number_cell row.rounded ∷ number_cell row.zeroed ∷ [])
    ++ fault_cell fault ++ codes "\n"

-- of a file that was not read
abbrev pub unread_row : List ℕ → PlainRow
unread_row path = record {
  path = path;
  text = [];
  same_as = [];
  goods = None;
  bids = None;
  kept = None;
  rounded = None;
  zeroed = None;
}

-- of a file that was read, with so many rounded prices
abbrev pub read_row : List ℕ → PlainFile → RoundedCount → PlainRow
read_row path file rounded = record {
  path = path;
  text = [];
  same_as = [];
  goods = Some file.goods;
  bids = Some (length file.bids);
  kept = None;
  rounded = Some rounded.count;
  zeroed = Some rounded.zeroed;
}

-- of a file that was judged, and is the same auction as one before it
abbrev pub judged_row : PlainRow → ℕ → List ℕ → PlainRow
judged_row row kept same_as = record {
  path = row.path;
  text = row.text;
  same_as = same_as;
  goods = row.goods;
  bids = row.bids;
  kept = Some kept;
  rounded = row.rounded;
  zeroed = row.zeroed;
}

-- of a file that is refused: what is known of it, if a step limit refuses it
abbrev pub refused_row : PlainRow → CanonFault → PlainRow
refused_row row (StepLimit goods) = record {
  path = row.path;
  text = row.text;
  same_as = row.same_as;
  goods = row.goods;
  bids = row.bids;
  kept = row.kept;
  rounded = None;
  zeroed = None;
}
refused_row row fault = unread_row row.path

-- of a file whose text is to be written at this path
abbrev pub row_at : PlainRow → List ℕ → Option Unwritten → PlainRow
row_at row place None = record {
  path = row.path;
  text = place;
  same_as = row.same_as;
  goods = row.goods;
  bids = row.bids;
  kept = row.kept;
  rounded = row.rounded;
  zeroed = row.zeroed;
}
row_at row place (Some why) = row

-- ---- one file

-- the path of the first file that is the same auction, if there is one
abbrev pub path_found : Published → Option (List ℕ)
path_found published = option_map (λ path. path.items) published.same_as

-- the first of the files that is the same auction is at this path
pub record FindsFirst (judgements : List (List ℕ × Judgement)) (file : PlainFile)
    (path : Option (List ℕ)) : Type 0 where
  pub is : same_as judgements file ≡ path
  pub none : is_none (first_number (judged_files judgements) file) ≡ is_none path

-- the file was judged, and is kept
pub record JudgesText (options : SearchOptions) (path : List ℕ) (file : PlainFile) (old new : Publisher)
    (published : Published) : Type 0 where
  pub within : first_refused options file.goods (or_atoms_of file.bids) ≡ None
  pub text : published.text.items ≡ canonical_text file
  pub kept : published.kept ≡ length (canonical_file file).bids
  pub finds : (js : List (List ℕ × Judgement)) → KeepsAuctions old js → FindsFirst js file (path_found published)
  pub keeps : (js : List (List ℕ × Judgement)) (publishing : Publishing) → KeepsAuctions old js
      → KeepsAuctions new (js ++ (path, IsPublished file publishing) ∷ [])
  pub count : new.count ≡ old.count

-- a file is refused for this fault, or memory is
abbrev pub RefusesFor : SearchOptions → PlainFile → CanonFault → Type 0
RefusesFor options file (Read fault) = ⊥
RefusesFor options file (StepLimit goods) = first_refused options file.goods (or_atoms_of file.bids) ≡ Some goods.items
RefusesFor options file Memory = Unit {0}

abbrev pub JudgesOrRefuses : SearchOptions → List ℕ → PlainFile → Publisher → Publisher → Result Published CanonFault
    → Type 0
JudgesOrRefuses options path file old new (Ok published) = JudgesText options path file old new published
JudgesOrRefuses options path file old new (Err fault) = (new ≡ old) × RefusesFor options file fault

-- this became of a file that was read, with so many rounded prices
abbrev pub JudgesFile : SearchOptions → PlainFile → RoundedCount → Judgement → Type 0
JudgesFile options file rounded (IsPublished published publishing) =
    (published ≡ file) × (first_refused options file.goods (or_atoms_of file.bids) ≡ None)
    × (publishing.rounded ≡ rounded.count) × (publishing.zeroed ≡ rounded.zeroed)
JudgesFile options file rounded (IsHeavy refused heavy) =
    (refused ≡ file) × (naming_outcome options file ≡ outcome_of_heavy_bid heavy)
JudgesFile options file rounded (IsUnjudged fault) = fault ≡ Refused Only Memory
JudgesFile options file rounded judgement = ⊥

-- a text was to be written at the path of the file with this number, and this is the row of the file
pub record WritesRow (Wrote : List Attempt → Type 0) (many : ManyFiles) (number : ℕ) (row : PlainRow) (text : List ℕ)
    (fault : Option RunFault) (line : List ℕ) : Type 0 where
  pub unwritten : Option Unwritten
  pub wrote : Wrote (attempt_at (folder_of many.target) (places_of many.target) number text unwritten ∷ [])
  pub is_fault : fault ≡ option_map NotWritten unwritten
  pub is_line : line ≡ row_line (row_at row (text_path_for many number) unwritten) fault
