-- `paths_after_hyphens`
use Rattle.command_line.proofs.Common.{◌∷◌, Some, codes, refl, name_of, paths_for, request_of, usual, TASKS}
use Rattle.clap.proofs.OnLiterals.{clap_on_literals}
use Rattle.command_line.proofs.Lines.{all_same}
use Rattle.command_line.proofs.laws.paths_after_hyphens.Goals as goal

pub returns : goal.returns
unfolding clap_on_literals
returns c program first second =
    all_same (λ row. request_of (program ∷ name_of row.task ∷ codes "--" ∷ paths_for row first second))
    (λ row. Some (usual row.task (paths_for row first second))) TASKS refl
