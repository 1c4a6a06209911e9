-- What `cats compare` makes of two folders. It is a row for each path below either, with a verdict on the files there.
use Rattle.std.specs.Prelude.{◌≡◌, ◌≤◌, ◌⊎◌, ◌++◌, ◌==◌, ◌&&◌, ℕ, max, not, Bool, true, false, List, [], ◌∷◌, codes}
use Rattle.std.specs.Prelude.{fold, map}
use Rattle.std.specs.Prelude.{take, if◌then◌else◌, Option, Some, None, Result, Ok, Err}
use Rattle.std.specs.Cmp.Lexicographic.{slice_cmp}
use Rattle.std.specs.List.{All, AllByRecursion, Contains, flat_map}
use Rattle.std.specs.List.Sorted.{IsStrictlySortedBy}
use Rattle.std.specs.Ordering.{nat_cmp}
use Rattle.cats_text.specs.Streams.{SendsPart, SendsWhole}
use Rattle.cats_text.specs.declared.stream.Watched.{Watched}
use Rattle.canon.specs.declared.canon_fault.CanonFault.{CanonFault}
use Rattle.canon.specs.declared.canon_fault.CanonFault.TheVariants.{Memory}
use Rattle.canon.specs.declared.which.Which.{Which}
use Rattle.canon.specs.declared.which.Which.TheVariants.{Only, First, Second}
use Rattle.bid_file.specs.Files.{PlainFile}
use Rattle.canon.specs.Difference.{NoDifference, first_difference}
use Rattle.valuation.specs.Auctions.{auction_from}
use Rattle.commands.specs.Pairs.{Compares, GivesBoth}
use Rattle.commands.specs.Statuses.{status_of_fault}
use Rattle.commands.specs.declared.answer.Answer.{Answer}
use Rattle.commands.specs.declared.faults.RunFault.{RunFault}
use Rattle.commands.specs.declared.faults.RunFault.TheVariants.{NotOpened, Refused, Sent}
use Rattle.commands.specs.declared.faults.Unopened.{Unopened}
use Rattle.commands.specs.declared.faults.Unopened.TheVariants.{Other}
use Rattle.requests.specs.Requests.{PlainRequest}
use Rattle.requests.specs.declared.task.Task.{Task}
use Rattle.requests.specs.declared.task.Task.TheVariants.{Compare}
use Rattle.cats_cmd.specs.Escaping.{escaped}
use Rattle.cats_cmd.specs.Folders.{Finds}
use Rattle.cats_cmd.specs.Opening.{Opening, Opens, in_way, openings_of}
use Rattle.cats_cmd.specs.Paths.{IsUnopened, bytes_counted}
use Rattle.cats_cmd.specs.PricedInputs.{IsPriced, PricedGives, PricedRefuses, none_rounded, rounding_lines}
use Rattle.cats_cmd.specs.Reports.{ReportsAll, is_lost, status_if_lost}
use Rattle.cats_cmd.specs.SizesTables.{fault_cell}
use Rattle.cats_cmd.specs.Stores.{path_in}
use Rattle.cats_cmd.specs.declared.compare_folders.PathVerdict.{PathVerdict}
use Rattle.cats_cmd.specs.declared.compare_folders.PathVerdict.TheVariants.{Same, Different, Left, Right, Unjudged}
use Rattle.cats_cmd.specs.declared.priced_input.PricedInput.{PricedInput}
use Rattle.cats_cmd.specs.declared.priced_input.RoundedCount.{RoundedCount}
use Rattle.cats_cmd.specs.declared.source.Way.TheVariants.{Regular}

-- ---- two folders

-- whether a command on two files takes two folders too
abbrev pub takes_folders : Task → Bool
takes_folders Compare = true
takes_folders task = false

-- a folder's path, and the files that were found below it
pub record FoundFolder : Type 0 where
  pub path : List ℕ
  pub files : List (List ℕ)

-- the two folders, each with the paths of the files below it
pub record FoundFolders : Type 0 where
  pub left : FoundFolder
  pub right : FoundFolder

module _ (may_find : List ℕ → Option (List (List ℕ)) → Type 0) where
  -- folders may be found at both paths, with these files
  pub record FindsFolders (first second : List ℕ) (folders : FoundFolders) : Type 0 where
    pub of_first : folders.left.path ≡ first
    pub of_second : folders.right.path ≡ second
    pub left : Finds may_find first (Some folders.left.files)
    pub right : Finds may_find second (Some folders.right.files)

  -- at one of the paths no folder may be found
  abbrev pub LacksFolder : List ℕ → List ℕ → Type 0
  LacksFolder first second = Finds may_find first None ⊎ Finds may_find second None

  -- the paths are taken for those of files
  abbrev pub AreFiles : Task → List ℕ → List ℕ → Type 0
  AreFiles task first second = takes_folders task ≡ true → LacksFolder first second

-- a request whose command takes folders, on two paths at which folders may be found
pub record ComparesFolders (may_find : List ℕ → Option (List (List ℕ)) → Type 0) (request : PlainRequest) : Type 0 where
  pub takes : takes_folders request.task ≡ true
  pub first : List ℕ
  pub second : List ℕ
  pub is : request.files ≡ first ∷ second ∷ []
  pub folders : FoundFolders
  pub finds : FindsFolders may_find first second folders

-- a file was found at this path below the folder
abbrev pub IsIn : FoundFolder → List ℕ → Type 0
IsIn folder path = Contains folder.files (path_in folder.path path)

-- the paths below either folder, each once, in the order of their bytes
pub record ArePathsBelow (folders : FoundFolders) (paths : List (List ℕ)) : Type 0 where
  pub sorted : IsStrictlySortedBy (slice_cmp nat_cmp) paths
  pub below : (path : List ℕ) → Contains paths path → IsIn folders.left path ⊎ IsIn folders.right path
  pub all : (path : List ℕ) → IsIn folders.left path ⊎ IsIn folders.right path → Contains paths path

-- ---- rows

-- what `compare` answers of two files, as a verdict
abbrev pub verdict_of : Result Answer RunFault → PathVerdict
verdict_of (Ok answer) = if answer.status == 0 then Same else Different
verdict_of (Err fault) = Unjudged fault

abbrev pub word_of : PathVerdict → List ℕ
word_of Same = codes "same"
word_of Different = codes "different"
word_of Left = codes "left"
word_of Right = codes "right"
word_of (Unjudged fault) = []

abbrev pub fault_of : PathVerdict → Option RunFault
fault_of (Unjudged fault) = Some fault
fault_of verdict = None

abbrev pub is_same : PathVerdict → Bool
is_same Same = true
is_same verdict = false

-- 0 if the files are the same auction, and else 1, or 5 if a report is lost; or the status of a fault
abbrev pub status_of_verdict : Bool → PathVerdict → ℕ
status_of_verdict lost Same = status_if_lost lost 0
status_of_verdict lost (Unjudged fault) = status_of_fault fault
status_of_verdict lost verdict = status_if_lost lost 1

abbrev pub whole_row : List ℕ → PathVerdict → List ℕ
whole_row path verdict = escaped path ++ codes "\t" ++ word_of verdict ++ codes "\t" ++ fault_cell (fault_of verdict)
    ++ codes "\n"

-- the row of a path, if it is printed
abbrev pub row_of : Bool → List ℕ → PathVerdict → List ℕ
row_of all path verdict = if is_same verdict && not all then [] else whole_row path verdict

-- what became of a path below either folder, how many prices of the files there were rounded, and whether the report on
-- them is lost
pub record ComparedPath : Type 0 where
  pub path : List ℕ
  pub verdict : PathVerdict
  pub left : RoundedCount
  pub right : RoundedCount
  pub lost : Bool

-- no price of the files was rounded
abbrev pub compared_path : List ℕ → PathVerdict → ComparedPath
compared_path path verdict =
    record { path = path; verdict = verdict; left = none_rounded; right = none_rounded; lost = false }

-- the files are the same auction, and the report on them is not lost
abbrev pub IsSameRow : ComparedPath → Type 0
IsSameRow row = (row.verdict ≡ Same) × (row.lost ≡ false)

abbrev pub compared_header : List ℕ
compared_header = codes "file\tverdict\tfault\n"

-- the table of `cats compare`
abbrev pub compared_table : Bool → List ComparedPath → List ℕ
compared_table all rows = compared_header ++ flat_map (λ r. row_of all r.path r.verdict) rows

-- the greatest status of the rows, or 0
abbrev pub status_of_rows : List ComparedPath → ℕ
status_of_rows rows = fold (λ greatest r. max greatest (status_of_verdict r.lost r.verdict)) 0 rows

-- ---- the files at a path

module _ (may_refuse : List ℕ → Unopened → Type 0) where
  -- no file was opened at this one of the paths; `compare` gives no reason
  pub record FailsToOpenAt (which : Which) (path : List ℕ) (fault : RunFault) : Type 0 where
    pub why : Unopened
    pub refused : IsUnopened may_refuse path why
    pub is : fault ≡ NotOpened which Other

  -- the first of two files was not opened, or the second
  abbrev pub FailsToOpenBoth : List ℕ → List ℕ → RunFault → Type 0
  FailsToOpenBoth first second fault = FailsToOpenAt First first fault ⊎ FailsToOpenAt Second second fault

module _ {F : Type 0} (may_open : List ℕ → F → Type 0) (may_refuse : List ℕ → Unopened → Type 0)
    (remaining : F → Option (List ℕ)) (request : PlainRequest) where
  -- streams were opened at both paths, and this is what `compare` answers of them
  pub record ComparesOpened (first second : List ℕ) (verdict : PathVerdict) (one other : RoundedCount) : Type 0 where
    pub left : PricedInput F
    pub left_after : PricedInput F
    pub right : PricedInput F
    pub right_after : PricedInput F
    pub left_opened : IsPriced may_open request.prices first left
    pub right_opened : IsPriced may_open request.prices second right
    pub answer : Result Answer RunFault
    pub answers : Compares (PricedGives remaining) (PricedRefuses remaining) (PricedGives remaining)
        (PricedRefuses remaining) request.options left left_after right right_after answer
    pub is_verdict : verdict ≡ verdict_of answer
    pub counts : (one ≡ left_after.rounded) × (other ≡ right_after.rounded)

  -- files were given by the streams at two paths, and are the same auction
  pub record AreSameAt (first second : List ℕ) : Type 0 where
    pub left : PricedInput F
    pub left_after : PricedInput F
    pub right : PricedInput F
    pub right_after : PricedInput F
    pub left_opened : IsPriced may_open request.prices first left
    pub right_opened : IsPriced may_open request.prices second right
    pub files : PlainFile × PlainFile
    pub gives : GivesBoth (PricedGives remaining) (PricedRefuses remaining) (PricedGives remaining)
        (PricedRefuses remaining) request.options left left_after right right_after files
    pub same : first_difference (auction_from files.0) (auction_from files.1) ≡ NoDifference

  -- nothing was read, as a file was not opened
  pub record ComparesUnopened (first second : List ℕ) (verdict : PathVerdict) (one other : RoundedCount) : Type 0 where
    pub fault : RunFault
    pub fails : FailsToOpenBoth may_refuse first second fault
    pub is_verdict : verdict ≡ Unjudged fault
    pub counts : (one ≡ none_rounded) × (other ≡ none_rounded)

  abbrev pub ComparesFiles : List ℕ → List ℕ → PathVerdict → RoundedCount → RoundedCount → Type 0
  ComparesFiles first second verdict one other =
      ComparesOpened first second verdict one other ⊎ ComparesUnopened first second verdict one other

  module _ (folders : FoundFolders) where
    -- there are files in both folders, and they were compared
    pub record IsCompared (first second : List ℕ) (verdict : PathVerdict) (one other : RoundedCount) : Type 0 where
      pub in_left : Contains folders.left.files first
      pub in_right : Contains folders.right.files second
      pub compares : ComparesFiles first second verdict one other

    -- there is a file in the first folder alone, which was not read
    pub record IsOnlyLeft (first second : List ℕ) (verdict : PathVerdict) (one other : RoundedCount) : Type 0 where
      pub in_left : Contains folders.left.files first
      pub not_right : Contains folders.right.files second → ⊥
      pub is_verdict : verdict ≡ Left
      pub counts : (one ≡ none_rounded) × (other ≡ none_rounded)

    -- or in the second alone
    pub record IsOnlyRight (first second : List ℕ) (verdict : PathVerdict) (one other : RoundedCount) : Type 0 where
      pub in_right : Contains folders.right.files second
      pub not_left : Contains folders.left.files first → ⊥
      pub is_verdict : verdict ≡ Right
      pub counts : (one ≡ none_rounded) × (other ≡ none_rounded)

    -- this became of the files at two paths, one in each folder
    abbrev pub JudgesAt : List ℕ → List ℕ → PathVerdict → RoundedCount → RoundedCount → Type 0
    JudgesAt first second verdict one other = IsCompared first second verdict one other
        ⊎ IsOnlyLeft first second verdict one other ⊎ IsOnlyRight first second verdict one other

    -- there are files in both folders at this path below them, and they are the same auction
    pub record IsSameBelow (path : List ℕ) : Type 0 where
      pub in_left : IsIn folders.left path
      pub in_right : IsIn folders.right path
      pub same : AreSameAt (path_in folders.left.path path) (path_in folders.right.path path)

    -- this became of a path
    abbrev pub JudgesRow : ComparedPath → Type 0
    JudgesRow row = JudgesAt (path_in folders.left.path row.path)
        (path_in folders.right.path row.path) row.verdict row.left
        row.right

    module _ {E : Type 0} (messages : E → Option (List ℕ)) where
      -- of a path, how many prices of its files were rounded, unless that is lost
      pub record ReportsRow (row : ComparedPath) (old new : Watched E) : Type 0 where
        pub lines : ReportsAll messages (rounding_lines (path_in folders.left.path row.path) row.left
            ++ rounding_lines (path_in folders.right.path row.path) row.right) old new
        pub loses : row.lost ≡ is_lost (max row.left.count row.right.count) new

      -- of all paths, one after the other
      abbrev pub ReportsRows : List ComparedPath → Watched E → Watched E → Type 0
      ReportsRows [] old new = new ≡ old
      ReportsRows (row ∷ rest) old new = (between : Watched E) × ReportsRow row old between
          × ReportsRows rest between new

      -- this became of these paths, and it was reported
      pub record JudgesRows (paths : List (List ℕ)) (err err_after : Watched E)
          (rows : List ComparedPath) : Type 0 where
        pub of_paths : map (λ r. r.path) rows ≡ paths
        pub each : AllByRecursion JudgesRow rows
        pub reports : ReportsRows rows err err_after

      -- this became of the first of these paths
      pub record JudgesFirst (paths : List (List ℕ)) (err err_after : Watched E)
          (rows : List ComparedPath) : Type 0 where
        pub count : ℕ
        pub judges : JudgesRows (take count paths) err err_after rows

      -- ---- the run

      module _ {W : Type 0} (contents : W → Option (List ℕ)) where
        -- all paths were judged, and their table was written
        pub record WritesRows (paths : List (List ℕ)) (out out_after : Watched W) (err err_after : Watched E)
            (status : ℕ) : Type 0 where
          pub rows : List ComparedPath
          pub judges : JudgesRows paths err err_after rows
          pub sends : SendsWhole contents out out_after (compared_table request.all rows)
          pub is_status : status ≡ status_of_rows rows

        -- memory was refused to all paths together; the table of the first of them is written
        pub record StopsInRows (paths : List (List ℕ)) (out out_after : Watched W) (err err_after : Watched E) : Type 0
          where
            pub rows : List ComparedPath
            pub judges : JudgesFirst paths err err_after rows
            pub sends : SendsWhole contents out out_after (compared_table request.all rows)

        -- the output failed in the table of the first of the paths
        pub record FailsInRows (paths : List (List ℕ)) (out out_after : Watched W) (err err_after : Watched E)
            (written : ℕ) : Type 0 where
          pub rows : List ComparedPath
          pub judges : JudgesFirst paths err err_after rows
          pub count : ℕ
          pub is_counted : written ≡ bytes_counted count
          pub sends : SendsPart contents out out_after (compared_table request.all rows) count

        -- the run on the paths below the folders
        abbrev pub RunsOnRows : List (List ℕ) → Watched W → Watched W → Watched E → Watched E → Result ℕ RunFault
            → Type 0
        RunsOnRows paths out out_after err err_after (Ok status) = WritesRows paths out out_after err err_after status
        RunsOnRows paths out out_after err err_after (Err (Refused which fault)) =
            (which ≡ Only) × (fault ≡ Memory) × StopsInRows paths out out_after err err_after
        RunsOnRows paths out out_after err err_after (Err (Sent fault)) =
            FailsInRows paths out out_after err err_after fault.written
        RunsOnRows paths out out_after err err_after (Err fault) = ⊥

-- memory was refused for the paths, and nothing was written or reported
pub record WantsMemoryForPaths {W E : Type 0} (out out_after : Watched W) (err err_after : Watched E)
    (answer : Result ℕ RunFault) : Type 0 where
  pub is : answer ≡ Err (Refused Only Memory)
  pub silent : out_after ≡ out
  pub quiet : err_after ≡ err

module _ {F W E : Type 0} (may_open : List ℕ → F → Type 0) (may_refuse : List ℕ → Unopened → Type 0)
    (remaining : F → Option (List ℕ)) (contents : W → Option (List ℕ)) (messages : E → Option (List ℕ))
    (request : PlainRequest) where
  -- the run on the paths below these folders
  pub record RunsOnPathsBelow (folders : FoundFolders) (out out_after : Watched W) (err err_after : Watched E)
      (answer : Result ℕ RunFault) : Type 0 where
    pub paths : List (List ℕ)
    pub are : ArePathsBelow folders paths
    pub runs : RunsOnRows may_open may_refuse remaining request folders messages contents paths out out_after err
        err_after answer

  abbrev pub RunsBelow : FoundFolders → Watched W → Watched W → Watched E → Watched E → Result ℕ RunFault → Type 0
  RunsBelow folders out out_after err err_after answer = RunsOnPathsBelow folders out out_after err err_after answer
      ⊎ WantsMemoryForPaths out out_after err err_after answer

  module _ (may_find : List ℕ → Option (List (List ℕ)) → Type 0) (first second : List ℕ) where
    -- the run on two paths at which folders are found
    pub record RunsOnFound (out out_after : Watched W) (err err_after : Watched E) (answer : Result ℕ RunFault) : Type 0
      where
        pub folders : FoundFolders
        pub finds : FindsFolders may_find first second folders
        pub runs : RunsBelow folders out out_after err err_after answer

    -- it is, or memory was refused while folders were read
    abbrev pub RunsOnFolders : Watched W → Watched W → Watched E → Watched E → Result ℕ RunFault → Type 0
    RunsOnFolders out out_after err err_after answer = RunsOnFound out out_after err err_after answer
        ⊎ WantsMemoryForPaths out out_after err err_after answer

-- ---- what is opened

-- the files that are opened: both, or only the first, if it is refused; none, if there is only one
abbrev pub opened_at : List ℕ → List ℕ → PathVerdict → List (List ℕ)
opened_at first second Left = []
opened_at first second Right = []
opened_at first second (Unjudged (NotOpened First why)) = first ∷ []
opened_at first second verdict = first ∷ second ∷ []

abbrev pub opened_files : FoundFolders → List ComparedPath → List (List ℕ)
opened_files folders rows = flat_map (λ r. opened_at (path_in folders.left.path r.path)
    (path_in folders.right.path r.path) r.verdict) rows

module _ {S H F : Type 0} (content_of : S → H) (opened : S → Option (List Opening))
    (may_open : H → List ℕ → F → Type 0) (may_refuse : H → List ℕ → Unopened → Type 0)
    (remaining : F → Option (List ℕ)) (request : PlainRequest) (folders : FoundFolders) where
  -- this became of these paths, and their files were opened for it
  pub record OpensRows (paths : List (List ℕ)) (old new : S) : Type 0 where
    pub rows : List ComparedPath
    pub of_paths : map (λ r. r.path) rows ≡ paths
    pub each : AllByRecursion (JudgesRow (may_open (content_of old)) (may_refuse (content_of old)) remaining request
        folders) rows
    pub opens : Opens content_of opened old new (openings_of (in_way Regular (opened_files folders rows)))

  -- of all paths, or of the first, as the run was stopped
  abbrev pub OpensEachRow : List (List ℕ) → S → S → ℕ → Type 0
  OpensEachRow paths old new status =
      OpensRows paths old new ⊎ ((4 ≤ status) × ((count : ℕ) × OpensRows (take count paths) old new))

  pub record OpensPathsBelow (old new : S) (status : ℕ) : Type 0 where
    pub paths : List (List ℕ)
    pub are : ArePathsBelow folders paths
    pub opens : OpensEachRow paths old new status

  -- the files below the folders are opened, or none, as memory was refused
  abbrev pub OpensBelow : S → S → ℕ → Type 0
  OpensBelow old new status = OpensPathsBelow old new status ⊎ ((status ≡ 4) × (new ≡ old))

module _ {S H F : Type 0} (content_of : S → H) (opened : S → Option (List Opening))
    (may_open : H → List ℕ → F → Type 0) (may_refuse : H → List ℕ → Unopened → Type 0)
    (remaining : F → Option (List ℕ)) (may_find : H → List ℕ → Option (List (List ℕ)) → Type 0)
    (request : PlainRequest) (first second : List ℕ) where
  pub record OpensFound (old new : S) (status : ℕ) : Type 0 where
    pub folders : FoundFolders
    pub finds : FindsFolders (may_find (content_of old)) first second folders
    pub opens : OpensBelow content_of opened may_open may_refuse remaining request folders old new status

  -- the files below two folders are opened, or none, as memory was refused
  abbrev pub OpensFolders : S → S → ℕ → Type 0
  OpensFolders old new status = OpensFound old new status ⊎ ((status ≡ 4) × (new ≡ old))
