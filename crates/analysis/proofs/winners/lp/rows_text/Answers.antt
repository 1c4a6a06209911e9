-- `rows_text`
use Rattle.analysis.proofs.Common.{rules, le-ltb, lt-ltb}
use Rattle.analysis.proofs.Allocating.ByGood.{bids_found}
use Rattle.analysis.proofs.Allocating.RowTexts.{row_kept, row_left_out}
use Rattle.analysis.proofs.winners.lp.rows_text.Goals.{then-shared+in_ok-push_row, else-shared}
use Rattle.analysis.proofs.winners.lp.rows_text.Goals as goal

pub loop-good-preserved : goal.loop-good-preserved
loop-good-preserved c = search (rules, bids_found, then-shared+in_ok-push_row, lt-ltb, row_kept, else-shared, le-ltb, row_left_out)
