-- `cats_command`
use Rattle.command_line.proofs.Common.{◌≡◌, fold, take, app_of, with_command}
use Rattle.command_line.proofs.commands.cats_command.Given as goal

-- the commands so far were added
abbrev pub invariant-loop-row : goal.invariant-loop-row
invariant-loop-row l = app_of l.cats ≡ fold with_command (app_of l.initial.cats) (take l.row-index l.row-items)
