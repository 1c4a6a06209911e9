-- `unmended_texts_stay`
use Rattle.rounding.proofs.Layouts.{needless_mends, without_mends}
use Rattle.rounding.proofs.laws.unmended_texts_stay.Goals as goal

pub returns-clause-mends : goal.returns-clause-mends
returns-clause-mends c = needless_mends

pub returns-clause-text : goal.returns-clause-text
returns-clause-text c = without_mends
