-- `allocation_texts`
use Rattle.analysis.proofs.Common.{refl}
use Rattle.std.specs.Fmt.{digits}
use Rattle.analysis.proofs.worked.winners.allocation_texts.Goals as goal

pub returns-clause-revenue : goal.returns-clause-revenue
unfolding digits
returns-clause-revenue c = refl

pub returns-clause-good : goal.returns-clause-good
unfolding digits
returns-clause-good c = refl

pub returns-clause-bidder : goal.returns-clause-bidder
unfolding digits
returns-clause-bidder c = refl
