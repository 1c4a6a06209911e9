-- `written_prices_are_read`
use Rattle.rounding.proofs.FileLines.{written_spells, written_faultless}
use Rattle.rounding.proofs.laws.written_prices_are_read.Goals as goal

pub returns-clause-value : goal.returns-clause-value
returns-clause-value c = written_spells

pub returns-clause-faultless : goal.returns-clause-faultless
returns-clause-faultless c = written_faultless
