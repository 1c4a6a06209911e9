-- `tables_report_roundings`
use Rattle.cats_cmd.proofs.JudgingPaths.{roundings_reported}
use Rattle.cats_cmd.proofs.laws.tables_report_roundings.Goals as goal

pub returns : goal.returns
returns c = λ count js. roundings_reported count 1 js
