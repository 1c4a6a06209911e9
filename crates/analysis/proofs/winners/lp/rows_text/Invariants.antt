-- `rows_text`
use Rattle.analysis.proofs.Common.{◌≡◌}
use Rattle.analysis.proofs.Allocating.RowTexts.{first_rows}
use Rattle.analysis.proofs.winners.lp.rows_text.Given as goal

-- the rows of the goods so far are there
abbrev pub invariant-loop-good : goal.invariant-loop-good
invariant-loop-good l = l.text.items ≡ first_rows l.file l.good
