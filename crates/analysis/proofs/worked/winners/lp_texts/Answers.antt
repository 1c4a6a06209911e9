-- `lp_texts`
use Rattle.analysis.proofs.Common.{refl}
use Rattle.std.specs.Fmt.{digits}
use Rattle.analysis.proofs.worked.winners.lp_texts.Goals as goal

pub returns-clause-no_row : goal.returns-clause-no_row
unfolding digits
returns-clause-no_row c = refl

pub returns-clause-millionths : goal.returns-clause-millionths
unfolding digits
returns-clause-millionths c = refl

pub returns-clause-units : goal.returns-clause-units
unfolding digits
returns-clause-units c = refl

pub returns-clause-xor_bids : goal.returns-clause-xor_bids
unfolding digits
returns-clause-xor_bids c = refl
