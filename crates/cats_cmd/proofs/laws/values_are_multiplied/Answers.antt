-- `values_are_multiplied`
use Rattle.cats_cmd.proofs.Multiplying.{greatest_multiplied, or_multiplied, revenue_multiplied, xor_multiplied}
use Rattle.cats_cmd.proofs.laws.values_are_multiplied.Goals as goal

pub returns-clause-or : goal.returns-clause-or
returns-clause-or c = or_multiplied

pub returns-clause-xor : goal.returns-clause-xor
returns-clause-xor c = xor_multiplied

pub returns-clause-revenue : goal.returns-clause-revenue
returns-clause-revenue c = revenue_multiplied

pub returns-clause-greatest : goal.returns-clause-greatest
returns-clause-greatest c = greatest_multiplied
