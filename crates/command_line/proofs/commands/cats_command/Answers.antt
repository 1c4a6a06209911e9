-- `cats_command`
use Rattle.command_line.proofs.Common.{◌∙◌, ap₂, sym, fold_more, app_of, with_subcommand, with_command, TASKS}
use Rattle.command_line.proofs.commands.cats_command.Goals as goal

pub loop-row-preserved : goal.loop-row-preserved
loop-row-preserved c =
    c.in_ok-cats.ensures.shape c.in_ok-task_command.ensures.local ∙ ap₂ with_subcommand c.loop-row.invariant c.in_ok-task_command.ensures.shape
    ∙ sym (fold_more with_command (app_of c.subcommand_required-cats.result) TASKS c.loop-row.row-index _ c.loop-row-test.true)
