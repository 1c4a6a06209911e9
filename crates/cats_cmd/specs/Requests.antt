-- The contract of the program. It is the run of the request, on the files at its paths, what is sent where, and
-- with which status.
use Rattle.std.specs.Prelude.{◌≡◌, ◌⊎◌, ◌++◌, ℕ, max, Bool, true, false, List, Option, Some, None, Result, Ok, Err}
use Rattle.std.specs.Prelude.{[], ◌∷◌, codes, if◌then◌else◌, string_bytes, unwrap_or}
use Rattle.bid_file.specs.Files.{PlainFile}
use Rattle.cats_text.specs.Streams.{SendsWhole, SendsPart}
use Rattle.cats_text.specs.declared.stream.Watched.{Watched}
use Rattle.canon.specs.declared.which.Which.{Which}
use Rattle.canon.specs.declared.which.Which.TheVariants.{Only, First, Second}
use Rattle.cats_cmd.specs.Duplicates.{MakesGroups}
use Rattle.cats_cmd.specs.DuplicatesTables.{MakesGroupTable}
use Rattle.cats_cmd.specs.BidLists.{RunsOnBids}
use Rattle.cats_cmd.specs.ComparedFolders.{AreFiles, ComparesFolders, RunsOnFolders, takes_folders}
use Rattle.cats_cmd.specs.FileLists.{RunsAtPaths, RunsOnFiles}
use Rattle.cats_cmd.specs.FindingFaults.{MakesFaults, with_unplaced}
use Rattle.cats_cmd.specs.Inputs.{IsOpened}
use Rattle.cats_cmd.specs.PricedInputs.{IsPriced, PricedGives, PricedRefuses, rounding_lines}
use Rattle.cats_cmd.specs.declared.priced_input.PricedInput.{PricedInput}
use Rattle.cats_cmd.specs.Paths.{PrintsNothing, PrintsOnly, Reporting, RunsOnPaths, refusal_line, with_refusals}
use Rattle.cats_cmd.specs.Paths.{without_refusals}
use Rattle.cats_cmd.specs.PublishRuns.{PublishesAtPaths}
use Rattle.cats_cmd.specs.Stores.{Attempt, Text, WritesEach}
use Rattle.cats_cmd.specs.Rounding.{Rounds}
use Rattle.cats_cmd.specs.Runs.{RunsCommand, RunsOnPair}
use Rattle.cats_cmd.specs.SizesTables.{MakesTable}
use Rattle.commands.specs.Commands.{CommandsIfMet}
use Rattle.commands.specs.Outcomes.{Outcome}
use Rattle.commands.specs.Meanings.{outcome_of}
use Rattle.requests.specs.Requests.{PlainRequest}
use Rattle.valuation.specs.declared.search.options.SearchOptions.{SearchOptions}
use Rattle.requests.specs.Tasks.{files_of, gives_reason}
use Rattle.requests.specs.declared.task.Files.{Files}
use Rattle.requests.specs.declared.task.Files.TheVariants.{One, Two, Many}
use Rattle.requests.specs.declared.task.Task.{Task}
use Rattle.requests.specs.declared.task.Task.TheVariants.{Fault, Round, Duplicates, Publish}
use Rattle.rounding.specs.declared.replacement.PriceRule.{PriceRule}
use Rattle.rounding.specs.Replacements.{price_rule}
use Rattle.rounding.specs.declared.replacement.FinePrices.TheVariants.{Round as RoundFine}
use Rattle.cats_cmd.specs.Reports.{Reports, ReportsAll, SendsText, answer_if_lost, is_lost}
use Rattle.command_line.specs.Requests.{IsNoRequestOf, request_of}
use Rattle.command_line.specs.declared.request.NoRequest.{NoRequest}
use Rattle.command_line.specs.declared.request.NoRequest.TheVariants.{Help, WrongUsage, Misused, NoMemory}
use Rattle.command_line.specs.declared.request.Misuse.{Misuse}
use Rattle.command_line.specs.declared.request.Misuse.TheVariants.{SignedNumber, MoreThanOneFile, MoreThanTwoFiles}
use Rattle.command_line.specs.declared.request.Misuse.TheVariants.{BidsTwice, UnboundedTotal, WrongTimes}
use Rattle.command_line.specs.declared.request.Misuse.TheVariants.{WrongGoods, WrongBids, NoFiles, FilesTwice}
use Rattle.cats_cmd.specs.declared.paths.Ending.{Ending}
use Rattle.cats_cmd.specs.declared.paths.Ending.TheVariants.{Line, Null}
use Rattle.cats_cmd.specs.declared.paths.Progress.{Progress}
use Rattle.cats_cmd.specs.declared.paths.Progress.TheVariants.{Silent, Lines, Terminal as OnTerminal}
use Rattle.commands.specs.declared.faults.RunFault.{RunFault}
use Rattle.commands.specs.declared.faults.Unopened.{Unopened}
use Rattle.commands.specs.declared.faults.Unwritten.{Unwritten}
use Rattle.commands.specs.declared.faults.RunFault.TheVariants.{NotOpened}
use Rattle.commands.specs.declared.faults.Unopened.TheVariants.{Other}
use Rattle.commands.specs.Statuses.{status_of_fault}
use Rattle.commands.specs.FaultLines.{line_of_fault}
use Rattle.commands.specs.Judgements.{Judgement}

-- ---- a command line without a request

-- the end of what is printed of a wrong line
abbrev pub try_help : List ℕ
try_help = codes "\n\nFor more information, try '--help'.\n"

-- why a line is wrong whose words its subcommand takes
abbrev pub misuse_text : Misuse → List ℕ
misuse_text SignedNumber = codes "error: a number has digits alone, and no sign" ++ try_help
misuse_text MoreThanOneFile =
    codes "error: this command takes one file; 'cats fault', 'cats duplicates', 'cats sizes' and 'cats publish' take several" ++ try_help
misuse_text MoreThanTwoFiles =
    codes "error: this command takes two files; 'cats fault', 'cats duplicates', 'cats sizes' and 'cats publish' take several" ++ try_help
misuse_text BidsTwice = codes "error: give bids, or '--bids <LIST>', and not both" ++ try_help
misuse_text UnboundedTotal = codes "error: '--total-steps <N>' needs '--bound'" ++ try_help
misuse_text WrongTimes = codes "error: '--times <N>' is a power of ten, from 1 to 1000000000000" ++ try_help
misuse_text WrongGoods = codes "error: goods are numbers up to 4095 and ranges, as in '0,2-5'" ++ try_help
misuse_text WrongBids = codes "error: bids are numbers up to 65535 and ranges, as in '0,2-5'" ++ try_help
misuse_text NoFiles = codes "error: give paths, or '--files0-from <LIST>'" ++ try_help
misuse_text FilesTwice = codes "error: give paths or '--files0-from <LIST>', and not both" ++ try_help

module _ {W E : Type 0} (contents : W → Option (List ℕ)) (messages : E → Option (List ℕ)) where
  -- the text was written, and the status says whether all of it was
  pub record SendsHelp (text : List ℕ) (out out_after : Watched W) (status : ℕ) : Type 0 where
    pub sends : (status ≡ 0) × SendsWhole contents out out_after text
        ⊎ (status ≡ 5) × ((written : ℕ) × SendsPart contents out out_after text written)

  -- the answer without a request: help, or what is wrong, with its status
  abbrev pub AnswersNoRequest : NoRequest → Watched W → Watched W → Watched E → Watched E → ℕ → Type 0
  AnswersNoRequest (Help text) out out_after err err_after status =
      SendsHelp (string_bytes text) out out_after status × (err_after ≡ err)
  AnswersNoRequest (WrongUsage text) out out_after err err_after status =
      (status ≡ 64) × (out_after ≡ out) × SendsText messages (string_bytes text) err err_after
  AnswersNoRequest (Misused misuse) out out_after err err_after status =
      (status ≡ 64) × (out_after ≡ out) × SendsText messages (misuse_text misuse) err err_after
  AnswersNoRequest NoMemory out out_after err err_after status =
      (status ≡ 4) × (out_after ≡ out) × SendsText messages (codes "want of memory\n") err err_after

-- ---- a request, and any command line

-- how the paths of the output end, with `--null` and without
abbrev pub ending_of : Bool → Ending
ending_of true = Null
ending_of false = Line

-- how it is reported how many files were read, with `--progress` and without, if standard error is a terminal and if
-- not
abbrev pub progress_of : Bool → Bool → Progress
progress_of terminal false = Silent
progress_of true true = OnTerminal
progress_of false true = Lines

module _ {F W E : Type 0} (may_open : List ℕ → F → Type 0) (remaining : F → Option (List ℕ))
    (contents : W → Option (List ℕ)) (messages : E → Option (List ℕ)) where
  -- a run on a stream that was opened at the path, with its prices read so; how many were rounded is reported, or the
  -- status says that this is lost
  pub record RunsAt (path : List ℕ) (prices : Option PriceRule) (outcome : Bool → PlainFile → Outcome)
      (out out_after : Watched W) (err err_after : Watched E) (answer : Result ℕ RunFault) : Type 0 where
    pub before : PricedInput F
    pub after : PricedInput F
    pub opened : IsPriced may_open prices path before
    pub sent : Result ℕ RunFault
    pub runs : RunsCommand contents (CommandsIfMet (PricedGives remaining) (PricedRefuses remaining) outcome before
        after) out out_after sent
    pub reports : ReportsAll messages (rounding_lines path after.rounded) err err_after
    pub answers : answer ≡ answer_if_lost (is_lost after.rounded.count err_after) sent

  -- a run on the streams that were opened at the two paths
  pub record RunsAtBoth (first second : List ℕ) (request : PlainRequest) (out out_after : Watched W)
      (err err_after : Watched E) (answer : Result ℕ RunFault) : Type 0 where
    pub left : PricedInput F
    pub left_after : PricedInput F
    pub right : PricedInput F
    pub right_after : PricedInput F
    pub left_opened : IsPriced may_open request.prices first left
    pub right_opened : IsPriced may_open request.prices second right
    pub sent : Result ℕ RunFault
    pub runs : RunsOnPair (PricedGives remaining) (PricedRefuses remaining) (PricedGives remaining)
        (PricedRefuses remaining) contents request left left_after right right_after out out_after sent
    pub reports : ReportsAll messages
        (rounding_lines first left_after.rounded ++ rounding_lines second right_after.rounded) err err_after
    pub answers : answer
        ≡ answer_if_lost (is_lost (max left_after.rounded.count right_after.rounded.count) err_after) sent

module _ {F W E : Type 0} (may_open : List ℕ → F → Type 0) (may_refuse : List ℕ → Unopened → Type 0)
    (remaining : F → Option (List ℕ)) (contents : W → Option (List ℕ)) (messages : E → Option (List ℕ)) where
  -- a rounding of the stream that was opened at the path
  pub record RoundsAt (path : List ℕ) (rule : PriceRule) (out out_after : Watched W) (err err_after : Watched E)
      (answer : Result ℕ RunFault) : Type 0 where
    pub before : Watched F
    pub after : Watched F
    pub opened : IsOpened may_open path before
    pub runs : Rounds remaining contents messages rule before after out out_after err err_after answer

-- the reason that a command reports, if it reports one
abbrev pub reason_of : Task → Unopened → Unopened
reason_of task why = if gives_reason task then why else Other

-- the path of one of a request's files
abbrev pub path_of : Which → List (List ℕ) → List ℕ
path_of Second (first ∷ second ∷ []) = second
path_of which (first ∷ rest) = first
path_of which [] = []

-- the line on a request that failed; a command that says why a file cannot be opened names the file
abbrev pub line_of_failure : PlainRequest → RunFault → List ℕ
line_of_failure request (NotOpened which why) = if gives_reason request.task
    then refusal_line (path_of which request.files) (NotOpened Only why) else line_of_fault (NotOpened which why)
line_of_failure request fault = line_of_fault fault

module _ (may_refuse : List ℕ → Unopened → Type 0) (task : Task) where
  -- this one of the files of a request cannot be opened
  pub record CannotOpen (which : Which) (file : List ℕ) (fault : RunFault) : Type 0 where
    pub why : Unopened
    pub is : fault ≡ NotOpened which (reason_of task why)
    pub refused : may_refuse file why

  -- one of two
  abbrev pub CannotOpenPair : List ℕ → List ℕ → RunFault → Type 0
  CannotOpenPair first second fault = CannotOpen First first fault ⊎ CannotOpen Second second fault

  -- one of two that are taken for files
  abbrev pub CannotOpenTwo : (List ℕ → Option (List (List ℕ)) → Type 0) → List ℕ → List ℕ → RunFault → Type 0
  CannotOpenTwo may_find first second fault = AreFiles may_find task first second × CannotOpenPair first second fault

  -- one of these files; of many files none, as the request goes on with the others
  abbrev pub CannotOpenOf : (List ℕ → Option (List (List ℕ)) → Type 0) → Files → List (List ℕ) → RunFault → Type 0
  CannotOpenOf may_find One (file ∷ []) fault = CannotOpen Only file fault
  CannotOpenOf may_find Two (first ∷ second ∷ []) fault = CannotOpenTwo may_find first second fault
  CannotOpenOf may_find count files fault = ⊥

module _ {W E : Type 0} (Runs : Watched W → Watched W → Watched E → Watched E → Result ℕ RunFault → Type 0)
    (Cannot : RunFault → Type 0) (out out_after : Watched W) (err err_after : Watched E) (answer : Result ℕ RunFault)
  where
    -- a file cannot be opened, and nothing was read, written or reported
    pub record FailsToOpen : Type 0 where
      pub fault : RunFault
      pub is : answer ≡ Err fault
      pub cannot : Cannot fault
      pub silent : out_after ≡ out
      pub quiet : err_after ≡ err

    -- the run answers, or a file cannot be opened
    abbrev pub Carries : Type 0
    Carries = Runs out out_after err err_after answer ⊎ FailsToOpen

module _ {F W E : Type 0} (may_open : List ℕ → F → Type 0) (may_refuse : List ℕ → Unopened → Type 0)
    (remaining : F → Option (List ℕ)) (contents : W → Option (List ℕ)) (messages : E → Option (List ℕ)) where
  -- the run of a command on the bid file at the path
  abbrev pub RunsOfCommand : PlainRequest → List ℕ → Watched W → Watched W → Watched E → Watched E → Result ℕ RunFault
      → Type 0
  RunsOfCommand request path out out_after err err_after answer =
      RunsOnBids may_open may_refuse remaining messages
      (λ bids. RunsAt may_open remaining contents messages path request.prices (outcome_of request bids))
      request.list request.bids out out_after err err_after answer

  -- the run on the only file of a request, by its command
  abbrev pub RunsOnOne : Task → PlainRequest → List ℕ → Watched W → Watched W → Watched E → Watched E
      → Result ℕ RunFault → Type 0
  RunsOnOne Round request path out out_after err err_after answer =
      RoundsAt may_open may_refuse remaining contents messages path
      (unwrap_or request.prices (price_rule RoundFine 0)) out out_after err err_after answer
  RunsOnOne task request path out out_after err err_after answer =
      RunsOfCommand request path out out_after err err_after answer

  -- the run on two paths: on the files below, if folders are at both and the command takes folders
  abbrev pub RunsOnTwo : (List ℕ → Option (List (List ℕ)) → Type 0) → List ℕ → List ℕ → PlainRequest → Watched W
      → Watched W
      → Watched E → Watched E → Result ℕ RunFault → Type 0
  RunsOnTwo may_find first second request out out_after err err_after answer = (takes_folders request.task ≡ true)
      × RunsOnFolders may_open may_refuse remaining contents messages request may_find first second out out_after err
      err_after answer
      ⊎ AreFiles may_find request.task first second
      × RunsAtBoth may_open remaining contents messages first second request out out_after err err_after answer

  -- `terminal` says whether standard error is a terminal, and `known` which texts the place of all files has, before
  -- and after.
  module _ (terminal : Bool) (may_find : List ℕ → Option (List (List ℕ)) → Type 0)
      (may_not_write : List ℕ → Unwritten → Type 0) (known known_after : Option (List Text)) where
    abbrev pub Wrote : List Attempt → Type 0
    Wrote = WritesEach may_not_write known known_after

    -- The run on many files, which are searched so, or not at all. `Makes` says what is printed of what became of them,
    -- and `Shows` what is so far.
    abbrev pub RunsOnMany : Option SearchOptions → (List (List ℕ × Judgement) → List ℕ → List Attempt → Type 0)
        → (List (List ℕ × Judgement) → List ℕ → List Attempt → Type 0) → (Progress → Reporting) → PlainRequest
        → Watched W → Watched W → Watched E → Watched E → Result ℕ RunFault → Type 0
    RunsOnMany options Shows Makes reporting request out out_after err err_after answer =
        RunsOnFiles may_open may_refuse remaining messages Wrote
        (RunsAtPaths Wrote may_find (λ paths. RunsOnPaths may_open may_refuse remaining contents messages options
        request.prices Shows Wrote paths (reporting (progress_of terminal request.progress)) Makes))
        request.list request.files out out_after err err_after answer

    -- the run of `cats publish`
    abbrev pub RunsPublish : PlainRequest → Watched W → Watched W → Watched E → Watched E → Result ℕ RunFault → Type 0
    RunsPublish request out out_after err err_after answer =
        RunsOnFiles may_open may_refuse remaining messages Wrote
        (PublishesAtPaths may_open may_refuse remaining contents messages may_not_write known known_after
        request.options request.prices request.all (without_refusals (progress_of terminal request.progress))
        (unwrap_or request.folder []) may_find)
        request.list request.files out out_after err err_after answer

    -- the groups of `cats duplicates`, or with `--table` its table
    abbrev pub RunsOfDuplicates : Bool → PlainRequest → Watched W → Watched W → Watched E → Watched E
        → Result ℕ RunFault
        → Type 0
    RunsOfDuplicates false request out out_after err err_after answer =
        RunsOnMany (Some request.options) PrintsNothing
        (PrintsOnly (MakesGroups (ending_of request.null) request.all)) with_refusals request out out_after err
        err_after answer
    RunsOfDuplicates true request out out_after err err_after answer =
        RunsOnMany (Some request.options) (PrintsOnly (MakesGroupTable (ending_of request.null)))
        (PrintsOnly (MakesGroupTable
        (ending_of request.null))) without_refusals request out out_after err err_after answer

    -- by the command
    abbrev pub RunsOfFiles : Task → PlainRequest → Watched W → Watched W → Watched E → Watched E → Result ℕ RunFault
        → Type 0
    RunsOfFiles Fault request out out_after err err_after answer =
        RunsOnMany None PrintsNothing (PrintsOnly MakesFaults) with_unplaced request out out_after err err_after answer
    RunsOfFiles Duplicates request out out_after err err_after answer =
        RunsOfDuplicates request.table request out out_after err err_after answer
    RunsOfFiles Publish request out out_after err err_after answer =
        RunsPublish request out out_after err err_after answer
    RunsOfFiles task request out out_after err err_after answer =
        RunsOnMany (Some request.options) (PrintsOnly (MakesTable (ending_of request.null)))
        (PrintsOnly (MakesTable (ending_of request.null))) without_refusals request out out_after err err_after answer

    -- the run on these files of a request whose command reads so many. If there are more or fewer, that is wrong usage
    abbrev pub RunsWith : Files → List (List ℕ) → PlainRequest → Watched W → Watched W → Watched E → Watched E
        → Result ℕ RunFault → Type 0
    RunsWith Many files request out out_after err err_after answer =
        RunsOfFiles request.task request out out_after err err_after answer
    RunsWith One (file ∷ []) request out out_after err err_after answer =
        RunsOnOne request.task request file out out_after err err_after answer
    RunsWith Two (first ∷ second ∷ []) request out out_after err err_after answer =
        RunsOnTwo may_find first second request out out_after err err_after answer
    RunsWith count files request out out_after err err_after answer =
        (answer ≡ Ok 64) × (out_after ≡ out) × (err_after ≡ err)

    -- the run of each request
    abbrev pub RunsFor : PlainRequest → Watched W → Watched W → Watched E → Watched E → Result ℕ RunFault → Type 0
    RunsFor request = RunsWith (files_of request.task) request.files request

    abbrev pub CarriesOut : PlainRequest → Watched W → Watched W → Watched E → Watched E → Result ℕ RunFault → Type
        0
    CarriesOut request =
        Carries (RunsFor request) (CannotOpenOf may_refuse request.task may_find (files_of request.task) request.files)

    -- the request failed; why was reported after what its run reported, and the status is its own
    pub record FailsRequest (request : PlainRequest) (out out_after : Watched W) (err err_after : Watched E) (status :
        ℕ)
        : Type 0 where
      pub fault : RunFault
      pub between : Watched E
      pub carries : CarriesOut request out out_after err between (Err fault)
      pub reports : Reports messages (line_of_failure request fault) between err_after
      pub is_status : status ≡ status_of_fault fault

    -- a request's run is carried out, or its reason to stop is reported
    abbrev pub AnswersRequest : PlainRequest → Watched W → Watched W → Watched E → Watched E → ℕ → Type 0
    AnswersRequest request out out_after err err_after status =
        CarriesOut request out out_after err err_after (Ok status)
        ⊎ FailsRequest request out out_after err err_after status

    -- ---- any command line

    -- the line has this request, which is answered
    pub record AnswersAsked (words : List (List ℕ)) (out out_after : Watched W) (err err_after : Watched E) (status : ℕ)
        : Type 0 where
      pub request : PlainRequest
      pub asked : request_of words ≡ Some request
      pub answers : AnswersRequest request out out_after err err_after status

    -- the line is no request, or memory was refused, which is answered
    pub record AnswersUnasked (words : List (List ℕ)) (out out_after : Watched W) (err err_after : Watched E) (status :
        ℕ)
        : Type 0 where
      pub no_request : NoRequest
      pub unasked : IsNoRequestOf words no_request
      pub answers : AnswersNoRequest contents messages no_request out out_after err err_after status

    -- the program: a line with a request is answered by `AnswersRequest`, any other by `AnswersNoRequest`
    abbrev pub AnswersLine : List (List ℕ) → Watched W → Watched W → Watched E → Watched E → ℕ → Type 0
    AnswersLine words out out_after err err_after status =
        AnswersAsked words out out_after err err_after status ⊎ AnswersUnasked words out out_after err err_after status

-- the line has a request whose command takes folders, on two paths at which folders may be found
pub record NamesFolders (may_find : List ℕ → Option (List (List ℕ)) → Type 0) (words : List (List ℕ)) : Type 0 where
  pub request : PlainRequest
  pub asked : request_of words ≡ Some request
  pub compares : ComparesFolders may_find request
