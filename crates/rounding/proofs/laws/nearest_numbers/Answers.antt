-- `nearest_numbers`
use Rattle.rounding.proofs.Exactness.{nearest_is, nearest_only}
use Rattle.rounding.proofs.laws.nearest_numbers.Goals as goal

pub returns-clause-near : goal.returns-clause-near
returns-clause-near c = nearest_is

pub returns-clause-only : goal.returns-clause-only
returns-clause-only c = nearest_only
