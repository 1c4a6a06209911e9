-- The names of the commands.
use Rattle.std.specs.Prelude.{ℕ, Bool, true, false, List, codes, filter, map}
use Rattle.requests.specs.declared.task.Files.{Files}
use Rattle.requests.specs.declared.task.Files.TheVariants.{One, Two, Many}
use Rattle.requests.specs.declared.task.Task.{Task}
use Rattle.requests.specs.declared.task.Task.TheVariants.{Check, Fault, Show, Value, Revenue, Normalise, Explain, Round}
use Rattle.requests.specs.declared.task.Task.TheVariants.{Lp, Compare, Diff, Duplicates, Sizes, Publish}
use Rattle.requests.specs.declared.task.TaskRow.{TaskRow}
use Rattle.requests.specs.declared.task.TheConstants.{TASKS}

-- the name of a command
abbrev pub name_of : Task → List ℕ
name_of Check = codes "check"
name_of Fault = codes "fault"
name_of Show = codes "show"
name_of Value = codes "value"
name_of Revenue = codes "revenue"
name_of Normalise = codes "normalise"
name_of Explain = codes "explain"
name_of Round = codes "round"
name_of Lp = codes "lp"
name_of Compare = codes "compare"
name_of Diff = codes "diff"
name_of Duplicates = codes "duplicates"
name_of Sizes = codes "sizes"
name_of Publish = codes "publish"

-- the names of the commands whose rows pass a test
abbrev pub names_with : (TaskRow → Bool) → List (List ℕ)
names_with test = map (λ row. name_of row.task) (filter test TASKS)

-- how many files a command reads
abbrev pub files_of : Task → Files
files_of Fault = Many
files_of Compare = Two
files_of Diff = Two
files_of Duplicates = Many
files_of Sizes = Many
files_of Publish = Many
files_of task = One

-- whether a command reads many files
abbrev pub is_many : Files → Bool
is_many Many = true
is_many count = false

-- whether a command says why a file cannot be opened
abbrev pub gives_reason : Task → Bool
gives_reason Check = false
gives_reason Show = false
gives_reason Value = false
gives_reason Normalise = false
gives_reason Compare = false
gives_reason task = true
