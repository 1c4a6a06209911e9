-- Runs on many files. Their paths are words of the command line, or are in a list of paths.
use Rattle.std.specs.Prelude.{◌≡◌, ◌⊎◌, ℕ, List, [], Option, Some, None, Result, Ok, Err}
use Rattle.cats_text.specs.declared.read_fault.ReadFault.{ReadFault}
use Rattle.cats_text.specs.declared.stream.Watched.{Watched}
use Rattle.canon.specs.declared.canon_fault.CanonFault.TheVariants.{Read, Memory}
use Rattle.canon.specs.declared.which.Which.TheVariants.{Only}
use Rattle.cats_cmd.specs.Folders.{AreFilesAt}
use Rattle.cats_cmd.specs.Inputs.{IsOpened, ReadsAll, StopsReading, WantsMemoryForBytes}
use Rattle.cats_cmd.specs.PathLists.{paths_in}
use Rattle.cats_cmd.specs.Paths.{refusal_line}
use Rattle.cats_cmd.specs.Reports.{Reports}
use Rattle.cats_cmd.specs.Stores.{Attempt}
use Rattle.commands.specs.declared.faults.Unopened.{Unopened}
use Rattle.commands.specs.declared.faults.RunFault.{RunFault}
use Rattle.commands.specs.declared.faults.RunFault.TheVariants.{Refused, NotOpened}
use Rattle.commands.specs.Statuses.{status_of_fault}

module _ {F : Type 0} (may_open : List ℕ → F → Type 0) (may_refuse : List ℕ → Unopened → Type 0)
    (remaining : F → Option (List ℕ)) (list : List ℕ) where
  -- these bytes are all of the stream that was opened at the path of the list
  pub record ReadsList (bytes : List ℕ) : Type 0 where
    pub before : Watched F
    pub after : Watched F
    pub opened : IsOpened may_open list before
    pub reads : ReadsAll remaining before after bytes

  -- the stream that was opened at the path of the list failed, or was longer than is read
  pub record StopsList (fault : ReadFault) : Type 0 where
    pub before : Watched F
    pub after : Watched F
    pub opened : IsOpened may_open list before
    pub stops : StopsReading remaining before after fault.line fault.kind

  -- memory was refused for the bytes of the stream that was opened at the path of the list
  pub record WantsMemoryForList : Type 0 where
    pub before : Watched F
    pub after : Watched F
    pub opened : IsOpened may_open list before
    pub wants : WantsMemoryForBytes remaining before after

  -- why the list was not read
  abbrev pub IsUnread : RunFault → Type 0
  IsUnread (NotOpened which why) = (which ≡ Only) × may_refuse list why
  IsUnread (Refused which (Read fault)) = (which ≡ Only) × StopsList fault
  IsUnread (Refused which Memory) = (which ≡ Only) × WantsMemoryForList
  IsUnread fault = ⊥

-- a list was not read, for one of these reasons, which was reported as of a file, and nothing was written
pub record RefusesList {W E : Type 0} (messages : E → Option (List ℕ)) (Unread : RunFault → Type 0)
    (list : List ℕ) (out out_after : Watched W) (err err_after : Watched E) (status : ℕ) : Type 0 where
  pub fault : RunFault
  pub unread : Unread fault
  pub reports : Reports messages (refusal_line list fault) err err_after
  pub silent : out_after ≡ out
  pub is_status : status ≡ status_of_fault fault

-- `Wrote` says which texts were written, and `Runs` is the run on some files.
module _ {W E : Type 0} (Wrote : List Attempt → Type 0) where
  -- memory was refused before anything was printed, reported or written
  abbrev pub WantsMemoryFirst : Watched W → Watched W → Watched E → Watched E → Result ℕ RunFault → Type 0
  WantsMemoryFirst out out_after err err_after answer = (answer ≡ Err (Refused Only Memory)) × (out_after ≡ out)
      × (err_after ≡ err) × Wrote []

  module _ (may_find : List ℕ → Option (List (List ℕ)) → Type 0)
      (Runs : List (List ℕ) → Watched W → Watched W → Watched E → Watched E → Result ℕ RunFault → Type 0) where
    -- the run is on the files at these paths
    pub record RunsOnFound (paths : List (List ℕ)) (out out_after : Watched W) (err err_after : Watched E)
        (answer : Result ℕ RunFault) : Type 0 where
      pub files : List (List ℕ)
      pub are : AreFilesAt may_find paths files
      pub runs : Runs files out out_after err err_after answer

    -- it is, or memory was refused while folders were read
    abbrev pub RunsAtPaths : List (List ℕ) → Watched W → Watched W → Watched E → Watched E → Result ℕ RunFault → Type 0
    RunsAtPaths paths out out_after err err_after answer = RunsOnFound paths out out_after err err_after answer
        ⊎ WantsMemoryFirst out out_after err err_after answer

-- `Runs` is the run on the files at some paths.
module _ {F W E : Type 0} (may_open : List ℕ → F → Type 0) (may_refuse : List ℕ → Unopened → Type 0)
    (remaining : F → Option (List ℕ)) (messages : E → Option (List ℕ)) (Wrote : List Attempt → Type 0)
    (Runs : List (List ℕ) → Watched W → Watched W → Watched E → Watched E → Result ℕ RunFault → Type 0) where
  -- the list was read, and the run is on the paths in it
  pub record RunsOnListed (list : List ℕ) (out out_after : Watched W) (err err_after : Watched E)
      (answer : Result ℕ RunFault) : Type 0 where
    pub bytes : List ℕ
    pub reads : ReadsList may_open may_refuse remaining list bytes
    pub runs : Runs (paths_in bytes) out out_after err err_after answer

  abbrev pub RunsOnList : List ℕ → Watched W → Watched W → Watched E → Watched E → Result ℕ RunFault → Type 0
  RunsOnList list out out_after err err_after (Ok status) =
      RunsOnListed list out out_after err err_after (Ok status)
      ⊎ (RefusesList messages (IsUnread may_open may_refuse remaining list) list out out_after err err_after status
      × Wrote [])
  RunsOnList list out out_after err err_after (Err fault) = RunsOnListed list out out_after err err_after (Err fault)

  -- the run on the paths in the list, or else on those that are given
  abbrev pub RunsOnFiles : Option (List ℕ) → List (List ℕ) → Watched W → Watched W → Watched E → Watched E
      → Result ℕ RunFault → Type 0
  RunsOnFiles None paths out out_after err err_after answer = Runs paths out out_after err err_after answer
  RunsOnFiles (Some list) paths out out_after err err_after answer = RunsOnList list out out_after err err_after answer
