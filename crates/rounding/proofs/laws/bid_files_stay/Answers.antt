-- `bid_files_stay`
use Rattle.rounding.proofs.FileLines.{file_stays, file_unchanged}
use Rattle.rounding.proofs.laws.bid_files_stay.Goals as goal

pub returns-clause-text : goal.returns-clause-text
returns-clause-text c = file_stays

pub returns-clause-prices : goal.returns-clause-prices
returns-clause-prices c = file_unchanged
