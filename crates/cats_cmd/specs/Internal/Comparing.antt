-- The parts of comparing two folders.
use Rattle.std.specs.Prelude.{◌≡◌, ℕ, List, length, map, Option, Some, None, Vec}
use Rattle.std.specs.Global.{Global}
use Rattle.cats_text.specs.Streams.{SendsWhole}
use Rattle.cats_text.specs.declared.stream.Watched.{Watched}
use Rattle.commands.specs.declared.faults.RunFault.{RunFault}
use Rattle.commands.specs.declared.faults.Unopened.{Unopened}
use Rattle.requests.specs.Requests.{PlainRequest}
use Rattle.cats_cmd.specs.ComparedFolders.{ComparedPath, FailsToOpenBoth, FoundFolder, FoundFolders, JudgesRow}
use Rattle.cats_cmd.specs.ComparedFolders.{JudgesRows}
use Rattle.cats_cmd.specs.ComparedFolders.{LacksFolder, ReportsRow, compared_table, opened_at, row_of, status_of_rows}
use Rattle.cats_cmd.specs.ComparedFolders.{status_of_verdict}
use Rattle.cats_cmd.specs.Folders.{Finds, ListsFolder, paths_of}
use Rattle.cats_cmd.specs.Opening.{Opening, Opens, in_way, openings_of}
use Rattle.cats_cmd.specs.Paths.{bytes_counted}
use Rattle.cats_cmd.specs.declared.compare_folders.Folder.{Folder}
use Rattle.cats_cmd.specs.declared.compare_folders.Folders.{Folders}
use Rattle.cats_cmd.specs.declared.compare_folders.PathVerdict.{PathVerdict}
use Rattle.cats_cmd.specs.declared.compare_folders.PathVerdict.TheVariants.{Unjudged}
use Rattle.cats_cmd.specs.declared.source.Way.TheVariants.{Regular}

-- the folder of the code as a value
abbrev pub plain_folder : Folder → FoundFolder
plain_folder folder = record { path = folder.path.now; files = paths_of folder.files.now }

abbrev pub plain_folders : Folders → FoundFolders
plain_folders folders = record { left = plain_folder folders.left; right = plain_folder folders.right }

-- the files below two folders, or at one of the paths there is none
abbrev pub FindsBoth : (List ℕ → Option (List (List ℕ)) → Type 0) → List ℕ → List ℕ
    → Option (Vec (Vec ℕ Global) Global × Vec (Vec ℕ Global) Global) → Type 0
FindsBoth may_find first second None = LacksFolder may_find first second
FindsBoth may_find first second (Some found) = Finds may_find first (Some (paths_of found.0.items))
    × Finds may_find second (Some (paths_of found.1.items))

-- the files were found as those below their folders
pub record ListsBoth (folders : FoundFolders) : Type 0 where
  pub left : ListsFolder folders.left.path folders.left.files
  pub right : ListsFolder folders.right.path folders.right.files

-- the second file is not opened if the first is refused
module _ {S H : Type 0} (content_of : S → H) (opened : S → Option (List Opening)) (first second : List ℕ) where
  abbrev pub OpensFor : PathVerdict → S → S → Type 0
  OpensFor verdict old new =
      Opens content_of opened old new (openings_of (in_way Regular (opened_at first second verdict)))

  pub record OpensNeither (may_refuse : List ℕ → Unopened → Type 0) (old new : S) (fault : RunFault) : Type 0 where
    pub fails : FailsToOpenBoth may_refuse first second fault
    pub opens : OpensFor (Unjudged fault) old new

-- a path was judged and reported, and this is its row
pub record AddsRow {F E : Type 0} (may_open : List ℕ → F → Type 0) (may_refuse : List ℕ → Unopened → Type 0)
    (remaining : F → Option (List ℕ)) (request : PlainRequest) (folders : FoundFolders)
    (messages : E → Option (List ℕ)) (path : List ℕ) (err err_after : Watched E) (status : ℕ) (text : List ℕ) : Type 0
  where
    pub row : ComparedPath
    pub is_path : row.path ≡ path
    pub judges : JudgesRow may_open may_refuse remaining request folders row
    pub reports : ReportsRow may_open may_refuse remaining request folders messages row err err_after
    pub is_status : status ≡ status_of_verdict row.lost row.verdict
    pub is_text : text ≡ row_of request.all row.path row.verdict

-- so far, since the run began
pub record HasCompared {F W E : Type 0} (may_open : List ℕ → F → Type 0) (may_refuse : List ℕ → Unopened → Type 0)
    (remaining : F → Option (List ℕ)) (request : PlainRequest) (folders : FoundFolders)
    (contents : W → Option (List ℕ)) (messages : E → Option (List ℕ)) (paths : List (List ℕ))
    (out out_after : Watched W) (err err_after : Watched E) (greatest sent : ℕ) : Type 0 where
  pub rows : List ComparedPath
  pub judges : JudgesRows may_open may_refuse remaining request folders messages paths err err_after rows
  pub sends : SendsWhole contents out out_after (compared_table request.all rows)
  pub is_sent : sent ≡ bytes_counted (length (compared_table request.all rows))
  pub is_greatest : greatest ≡ status_of_rows rows
