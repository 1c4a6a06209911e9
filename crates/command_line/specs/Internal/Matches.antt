-- What the functions of this crate make of what `clap` found.
use Rattle.std.specs.Prelude.{◌≡◌, ◌⊎◌, Bool, true, false, List, Result, Ok, Err}
use Rattle.clap.specs.Matches.{found_of}
use Rattle.clap.specs.Simple.{App, with_subcommand}
use Rattle.clap.specs.Walk.{Row, Rule, rows_of}
use Rattle.clap.specs.declared.builder.command.Command.{Command}
use Rattle.clap.specs.declared.builder.command.Command.TheViews.{out-Command}
use Rattle.clap.specs.declared.error.kind.ErrorKind.{ErrorKind}
use Rattle.clap.specs.declared.error.kind.ErrorKind.TheVariants.{OutOfMemory}
use Rattle.clap.specs.declared.parser.matches.ArgMatches.{ArgMatches}
use Rattle.command_line.specs.Commands.{shape_of, with_argument}
use Rattle.command_line.specs.Requests.{is_shown}
use Rattle.command_line.specs.declared.request.Misuse.{Misuse}
use Rattle.command_line.specs.declared.request.NoRequest.{NoRequest}
use Rattle.command_line.specs.declared.request.NoRequest.TheVariants.{Help, WrongUsage, Misused, NoMemory}
use Rattle.requests.specs.Requests.{PlainRequest, plain_request}
use Rattle.requests.specs.declared.request.Request.{Request}
use Rattle.requests.specs.declared.task.TaskRow.{TaskRow}

-- some argument is one of the subcommands too
abbrev pub has_globals : Command → Bool
has_globals c = (out-Command c).has_globals

-- the command with an argument, if it has it
abbrev pub with_one : App → Rule × Bool → App
with_one app argument = record app { top = record app.top { rules = with_argument app.top.rules argument } }

-- the program with one command more
abbrev pub with_command : App → TaskRow → App
with_command app row = with_subcommand app (shape_of row)

abbrev pub rows_in : ArgMatches → List Row
rows_in m = rows_of (found_of m)

-- a request or a misuse, with the texts and numbers that it holds
abbrev pub plain_requested : Result Request Misuse → Result PlainRequest Misuse
plain_requested (Ok request) = Ok (plain_request request)
plain_requested (Err misuse) = Err misuse

-- what is answered for an error of this kind
abbrev pub IsAnswerTo : ErrorKind → NoRequest → Type 0
IsAnswerTo kind (Help text) = is_shown kind ≡ true
IsAnswerTo kind (WrongUsage text) = (is_shown kind ≡ false) × (kind ≡ OutOfMemory → ⊥)
IsAnswerTo kind (Misused misuse) = ⊥
IsAnswerTo kind NoMemory = (kind ≡ OutOfMemory) ⊎ (is_shown kind ≡ true)
