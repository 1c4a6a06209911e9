-- The parts of carrying out a request.
use Rattle.std.specs.Prelude.{◌≡◌, ◌⊎◌, ℕ, Bool, true, List, [], ◌∷◌, Option, Some, None}
use Rattle.requests.specs.Requests.{PlainRequest}
use Rattle.requests.specs.declared.task.Task.{Task}
use Rattle.command_line.specs.Requests.{is_wrong_usage}
use Rattle.command_line.specs.declared.request.NoRequest.{NoRequest}
use Rattle.command_line.specs.declared.request.NoRequest.TheVariants.{WrongUsage}
use Rattle.commands.specs.declared.faults.RunFault.{RunFault}
use Rattle.cats_cmd.specs.Opening.{Opening, Opens, way_of}
use Rattle.cats_cmd.specs.Requests.{CannotOpenPair, ending_of, progress_of}
use Rattle.cats_cmd.specs.declared.paths.ManyFiles.{ManyFiles}
use Rattle.cats_cmd.specs.declared.source.Way.{Way}
use Rattle.cats_cmd.specs.declared.source.Way.TheVariants.{NoFolder, Regular}
use Rattle.commands.specs.declared.faults.Unopened.{Unopened}

-- the same answer to a line without a request, but for the text of a wrong usage
abbrev pub IsButForText : NoRequest → NoRequest → Type 0
IsButForText (WrongUsage text) answer = is_wrong_usage answer ≡ true
IsButForText no_request answer = answer ≡ no_request

-- how a run on many files opens what is at its paths: at those that are named whatever is no folder, and at those in a
-- list only regular files
abbrev pub way_at_paths : Option (List ℕ) → Way
way_at_paths None = NoFolder
way_at_paths (Some list) = Regular

-- how a run on many files reads them and reports
abbrev pub many_files : Bool → PlainRequest → ManyFiles
many_files terminal request = record {
  options = request.options;
  progress = progress_of terminal request.progress;
  ending = ending_of request.null;
  prices = request.prices;
  all = request.all;
  way = way_at_paths request.list;
  target = None;
}

-- one of two files cannot be opened: the second, or the first, and then the second was not opened
pub record FailsToOpenPair {S H : Type 0} (content_of : S → H) (opened : S → Option (List Opening))
    (may_refuse : List ℕ → Unopened → Type 0) (task : Task) (first second : List ℕ) (old new : S) (fault : RunFault)
    : Type 0 where
  pub refused : CannotOpenPair may_refuse task first second fault
  pub opens : Opens content_of opened old new ((first, way_of task) ∷ (second, way_of task) ∷ [])
      ⊎ Opens content_of opened old new ((first, way_of task) ∷ [])
