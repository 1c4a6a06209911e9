-- Which paths a command line opens, each once, in which order and way.
use Rattle.std.specs.Prelude.{◌≡◌, ◌≤◌, ◌⊎◌, ℕ, true, List, [], ◌∷◌, Option, Some, None, Result, Ok, Err}
use Rattle.commands.specs.Statuses.{status_of_fault}
use Rattle.commands.specs.declared.faults.RunFault.{RunFault}
use Rattle.command_line.specs.Requests.{request_of}
use Rattle.requests.specs.Requests.{PlainRequest}
use Rattle.requests.specs.Tasks.{files_of}
use Rattle.requests.specs.declared.task.Files.{Files}
use Rattle.requests.specs.declared.task.Files.TheVariants.{One, Two, Many}
use Rattle.requests.specs.declared.task.Task.{Task}
use Rattle.requests.specs.declared.task.Task.TheVariants.{Round}
use Rattle.cats_cmd.specs.ComparedFolders.{AreFiles, OpensFolders, takes_folders}
use Rattle.cats_cmd.specs.FileLists.{ReadsList}
use Rattle.cats_cmd.specs.Opening.{Opening, Opens, OpensAtPaths, way_of}
use Rattle.cats_cmd.specs.PathLists.{paths_in}
use Rattle.commands.specs.declared.faults.Unopened.{Unopened}
use Rattle.cats_cmd.specs.declared.source.Way.{Way}
use Rattle.cats_cmd.specs.declared.source.Way.TheVariants.{NoFolder, Regular}

-- the status that a run comes to
abbrev pub status_of_run : Result ℕ RunFault → ℕ
status_of_run (Ok status) = status
status_of_run (Err fault) = status_of_fault fault

module _ {S H F : Type 0} (content_of : S → H) (opened : S → Option (List Opening))
    (may_open : H → List ℕ → F → Type 0) (may_refuse : H → List ℕ → Unopened → Type 0)
    (remaining : F → Option (List ℕ)) where
  -- both files are opened, or only the first, which is refused
  abbrev pub OpensPair : Way → List ℕ → List ℕ → S → S → ℕ → Type 0
  OpensPair way first second old new status =
      Opens content_of opened old new ((first, way) ∷ (second, way) ∷ [])
      ⊎ ((status ≡ 5) × Opens content_of opened old new ((first, way) ∷ []))

  -- the list of the bids, if there is one, and then the file, unless the list is refused
  abbrev pub OpensForBids : Way → Option (List ℕ) → List ℕ → S → S → ℕ → Type 0
  OpensForBids way (Some list) file old new status =
      Opens content_of opened old new ((list, NoFolder) ∷ (file, way) ∷ [])
      ⊎ ((2 ≤ status) × Opens content_of opened old new ((list, NoFolder) ∷ []))
  OpensForBids way None file old new status = Opens content_of opened old new ((file, way) ∷ [])

  -- the only file of a request, with its list
  abbrev pub OpensOne : Task → PlainRequest → List ℕ → S → S → ℕ → Type 0
  OpensOne Round request file old new status = Opens content_of opened old new ((file, NoFolder) ∷ [])
  OpensOne task request file old new status = OpensForBids (way_of request.task) request.list file old new status

  -- the line has no request, or memory was refused, and nothing is opened
  abbrev pub OpensNothing : List (List ℕ) → S → S → ℕ → Type 0
  OpensNothing words old new status = ((request_of words ≡ None) ⊎ (status ≡ 4)) × (new ≡ old)

  module _ (may_find : H → List ℕ → Option (List (List ℕ)) → Type 0) where
    -- the list was read from a stream that the source might open at first, and the regular files at the paths in it
    -- are opened
    pub record OpensListed (list : List ℕ) (first old new : S) (status : ℕ) : Type 0 where
      pub bytes : List ℕ
      pub reads : ReadsList (may_open (content_of first)) (may_refuse (content_of first)) remaining list bytes
      pub opens : OpensAtPaths content_of opened may_find Regular (paths_in bytes) old new status

    -- the list is opened, and then the files at the paths in it, unless it is not read or memory is refused for them
    pub record OpensList (list : List ℕ) (old new : S) (status : ℕ) : Type 0 where
      pub between : S
      pub opens : Opens content_of opened old between ((list, NoFolder) ∷ [])
      pub rest : OpensListed list old between new status ⊎ ((2 ≤ status) × (new ≡ between))

    -- at the paths that are named whatever is no folder is opened, and at those in a list only regular files
    abbrev pub OpensFiles : Option (List ℕ) → List (List ℕ) → S → S → ℕ → Type 0
    OpensFiles None paths old new status = OpensAtPaths content_of opened may_find NoFolder paths old new status
    OpensFiles (Some list) paths old new status = OpensList list old new status

    -- the files below two folders, if the command takes folders, and else both files
    abbrev pub OpensTwo : List ℕ → List ℕ → PlainRequest → S → S → ℕ → Type 0
    OpensTwo first second request old new status = (takes_folders request.task ≡ true)
        × OpensFolders content_of opened may_open may_refuse remaining may_find request first second old new status
        ⊎ AreFiles (may_find (content_of old)) request.task first second
        × OpensPair (way_of request.task) first second old new status

    -- these paths of a request whose command reads so many files; none, if there are more or fewer
    abbrev pub OpensPaths : Files → List (List ℕ) → PlainRequest → S → S → ℕ → Type 0
    OpensPaths Many paths request old new status = OpensFiles request.list paths old new status
    OpensPaths One (file ∷ []) request old new status = OpensOne request.task request file old new status
    OpensPaths Two (first ∷ second ∷ []) request old new status =
        OpensTwo first second request old new status
    OpensPaths count paths request old new status = new ≡ old

    -- the program opens the paths of a request, each once, in order
    abbrev pub OpensFor : PlainRequest → S → S → ℕ → Type 0
    OpensFor request = OpensPaths (files_of request.task) request.files request

    -- the line has this request, whose paths are opened
    pub record OpensAsked (words : List (List ℕ)) (old new : S) (status : ℕ) : Type 0 where
      pub request : PlainRequest
      pub asked : request_of words ≡ Some request
      pub opens : OpensFor request old new status

    -- the program opens the paths that a command line requests, or nothing
    abbrev pub OpensLine : List (List ℕ) → S → S → ℕ → Type 0
    OpensLine words old new status = OpensAsked words old new status ⊎ OpensNothing words old new status
