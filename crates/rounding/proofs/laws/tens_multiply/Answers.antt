-- `tens_multiply`
use Rattle.rounding.proofs.Exactness.{tens_multiply}
use Rattle.rounding.proofs.laws.tens_multiply.Goals as goal

pub returns : goal.returns
returns c = tens_multiply
