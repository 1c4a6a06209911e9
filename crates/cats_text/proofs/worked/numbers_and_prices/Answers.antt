-- `numbers_and_prices`
use Rattle.cats_text.proofs.Common.{refl}
use Rattle.std.specs.Fmt.{digits}
use Rattle.cats_text.proofs.worked.numbers_and_prices.Goals as goal

pub returns-clause-written : goal.returns-clause-written
unfolding digits
returns-clause-written c = refl

pub returns-clause-places : goal.returns-clause-places
unfolding digits
returns-clause-places c = refl
