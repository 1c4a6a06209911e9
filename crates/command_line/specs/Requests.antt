-- What a command line requests, and what it is if it requests nothing.
use Rattle.std.specs.Prelude.{◌≡◌, ◌==◌, ◌&&◌, ◌++◌, ℕ, Bool, true, false, not, All, List, [], ◌∷◌, filter, find}
use Rattle.std.specs.Prelude.{Option, Some, None, Result, Err, codes, if◌then◌else◌, is_none, ok_or, option_map}
use Rattle.std.specs.Prelude.{drop, slice_get, unwrap_or}
use Rattle.std.specs.Option.{option_map_or}
use Rattle.std.specs.List.{list_any, slice_split}
use Rattle.std.specs.Result.{result_err, result_ok}
use Rattle.std.specs.Str.{bytes_eq}
use Rattle.clap.specs.Faults.{fault_of}
use Rattle.clap.specs.Kinds.{Kinds}
use Rattle.clap.specs.Simple.{subcommand_of}
use Rattle.clap.specs.Walk.{Row, first_of}
use Rattle.clap.specs.declared.error.kind.ErrorKind.{ErrorKind}
use Rattle.clap.specs.declared.error.kind.ErrorKind.TheVariants.{DisplayHelp, DisplayVersion}
use Rattle.command_line.specs.Commands.{bids_in, cats, files_in, goods_in, has_signed_number, is_bounded, is_given}
use Rattle.command_line.specs.Commands.{is_set, list_in, options_in, prices_in, tens_in}
use Rattle.command_line.specs.Numbers.{begins_with_sign}
use Rattle.command_line.specs.declared.request.Misuse.{Misuse}
use Rattle.command_line.specs.declared.request.Misuse.TheVariants.{SignedNumber, MoreThanOneFile, MoreThanTwoFiles}
use Rattle.command_line.specs.declared.request.Misuse.TheVariants.{BidsTwice, UnboundedTotal, WrongTimes}
use Rattle.command_line.specs.declared.request.Misuse.TheVariants.{WrongGoods, WrongBids}
use Rattle.command_line.specs.declared.request.Misuse.TheVariants.{NoFiles, FilesTwice}
use Rattle.command_line.specs.declared.request.NoRequest.{NoRequest}
use Rattle.command_line.specs.declared.request.NoRequest.TheVariants.{Help, WrongUsage, Misused, NoMemory}
use Rattle.requests.specs.Requests.{PlainRequest}
use Rattle.requests.specs.Tasks.{name_of, names_with}
use Rattle.requests.specs.declared.task.Files.{Files}
use Rattle.requests.specs.declared.task.Files.TheVariants.{One}
use Rattle.requests.specs.declared.task.Task.{Task}
use Rattle.requests.specs.declared.task.TaskRow.{TaskRow}
use Rattle.requests.specs.declared.task.TheConstants.{TASKS}
use Rattle.valuation.specs.SearchLimits.{bounded_options, plain_options}
use Rattle.valuation.specs.declared.search.options.SearchOptions.{SearchOptions}

-- ---- by the rows of the arguments of a command

-- many files are words or a list, and not both
abbrev pub misuse_of_files : Bool → Bool → Option Misuse
misuse_of_files true true = Some FilesTwice
misuse_of_files false false = Some NoFiles
misuse_of_files words list = None

-- what is wrong with a line that `clap` takes, if something is
abbrev pub misuse_in : List Row → Option Misuse
misuse_in rows = if has_signed_number rows then Some SignedNumber
    else (if is_given (codes "MORE_FILES") rows
    then Some (if is_given (codes "SECOND_FILE") rows then MoreThanTwoFiles else MoreThanOneFile)
    else (if is_given (codes "bids") rows && is_given (codes "BID") rows then Some BidsTwice
    else (if is_given (codes "total-steps") rows && not (is_bounded rows) then Some UnboundedTotal
    else (if is_none (tens_in rows) then Some WrongTimes
    else (if is_none (goods_in rows) then Some WrongGoods
    else (if is_none (bids_in rows) then Some WrongBids
    else misuse_of_files (is_given (codes "FILE") rows) (is_given (codes "files0-from") rows)))))))

-- what a command requests by its arguments
abbrev pub request_in : Task → List Row → PlainRequest
request_in task rows = record {
  task = task;
  files = files_in rows;
  list = list_in rows;
  goods = unwrap_or (goods_in rows) [];
  bids = unwrap_or (bids_in rows) [];
  prices = prices_in rows;
  options = options_in rows;
  progress = is_set (codes "progress") rows;
  null = is_set (codes "null") rows;
  all = is_set (codes "all") rows;
  table = is_set (codes "table") rows;
  folder = first_of (codes "DIR") rows;
}

abbrev pub task_named : List ℕ → Option Task
task_named name = option_map (λ row. row.task) (find (λ row. bytes_eq (name_of row.task) name) TASKS)

-- what the command of a name requests, or what is wrong; `clap` takes the name of no other command
abbrev pub requested_by : Option Misuse → Option PlainRequest → Result PlainRequest Misuse
requested_by (Some misuse) found = Err misuse
requested_by None found = ok_or found NoFiles

abbrev pub requested_in : List ℕ → List Row → Result PlainRequest Misuse
requested_in name rows = requested_by (misuse_in rows) (option_map (λ task. request_in task rows) (task_named name))

-- ---- by the words of a line, of which the first is the program's name

-- what a line requests that `clap` takes, or what is wrong with it
abbrev pub requested_of : List (List ℕ) → Result PlainRequest Misuse
requested_of words = option_map_or (λ p. requested_in p.0 p.1) (subcommand_of cats words) (Err NoFiles)

-- a line without a fault requests this, and another nothing
abbrev pub if_taken : Kinds → Option PlainRequest → Option PlainRequest
if_taken [] found = found
if_taken (kind ∷ kinds) found = None

-- what a line of words requests, if it is right
abbrev pub request_of : List (List ℕ) → Option PlainRequest
request_of words = if_taken (fault_of cats words) (result_ok (requested_of words))

-- why a line that `clap` takes requests nothing
abbrev pub misuse_of : List (List ℕ) → Misuse
misuse_of words = unwrap_or (result_err (requested_of words)) NoFiles

-- a line as words, with a space (32) between each two
abbrev pub words_in : List ℕ → List (List ℕ)
words_in line = slice_split (λ b. b == 32) line

-- an answer that is no fault: help, or the version
abbrev pub is_shown : ErrorKind → Bool
is_shown DisplayHelp = true
is_shown DisplayVersion = true
is_shown kind = false

-- why a line requests nothing: it names help, `clap` refuses it, `misuse_of` says why, or want of memory
abbrev pub IsNoRequestOf : List (List ℕ) → NoRequest → Type 0
IsNoRequestOf words (Help text) = list_any is_shown (fault_of cats words) ≡ true
IsNoRequestOf words (WrongUsage text) = list_any (λ kind. not (is_shown kind)) (fault_of cats words) ≡ true
IsNoRequestOf words (Misused misuse) = (fault_of cats words ≡ []) × (requested_of words ≡ Err misuse)
IsNoRequestOf words NoMemory = Unit {0}

-- want of memory, which alone may come to a right line (law)
abbrev pub is_no_memory : NoRequest → Bool
is_no_memory NoMemory = true
is_no_memory answer = false

abbrev pub is_wrong_usage : NoRequest → Bool
is_wrong_usage (WrongUsage text) = true
is_wrong_usage answer = false

-- ---- a line with few words

-- how a command searches without an option
--
-- Where a flag chooses the bounded search, it is the plain one. Where it always is the bounded one, all searches of a
-- file have a limit together.
abbrev pub usual_options : Task → SearchOptions
usual_options task = if list_any (bytes_eq (name_of task)) (names_with (λ row. row.bound)) then plain_options 1000000
    else if list_any (bytes_eq (name_of task)) (names_with (λ row. row.limits))
    then bounded_options 1000000 (Some 50000000) else bounded_options 0 None

abbrev pub takes_folder : Task → Bool
takes_folder task = list_any (bytes_eq (name_of task)) (names_with (λ row. row.folder))

-- what is requested of a command with these paths and no option; the first may be that of a folder for texts
abbrev pub usual : Task → List (List ℕ) → PlainRequest
usual task paths = record {
  task = task;
  files = if takes_folder task then drop 1 paths else paths;
  list = None;
  goods = [];
  bids = [];
  prices = None;
  options = usual_options task;
  progress = false;
  null = false;
  all = false;
  table = false;
  folder = if takes_folder task then slice_get paths 0 else None;
}

-- the request, unless this number begins with a sign
abbrev pub unless_signed : List ℕ → PlainRequest → Option PlainRequest
unless_signed text request = if begins_with_sign text then None else Some request

-- the word may be an option
abbrev pub begins_with_hyphen : List ℕ → Bool
begins_with_hyphen [] = false
begins_with_hyphen (b ∷ rest) = b == 45

abbrev pub is_one : Files → Bool
is_one One = true
is_one files = false

-- one of two paths, or both, by how many files a command reads
abbrev pub paths_for : TaskRow → List ℕ → List ℕ → List (List ℕ)
paths_for row first second = if is_one row.files then first ∷ [] else first ∷ second ∷ []

-- each command whose row passes the test requests this, by these words and then its paths
--
-- A path here does not begin with a hyphen.
pub record EachRequests (test : TaskRow → Bool) (words : List (List ℕ))
    (request : Task → List (List ℕ) → Option PlainRequest) : Type 0 where
  pub each : (program first second : List ℕ) → begins_with_hyphen first ≡ false → begins_with_hyphen second ≡ false
      → All (λ row. request_of (program ∷ name_of row.task ∷ words ++ paths_for row first second)
      ≡ request row.task (paths_for row first second)) (filter test TASKS)
