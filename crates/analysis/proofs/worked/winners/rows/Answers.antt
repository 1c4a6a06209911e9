-- `rows`
use Rattle.analysis.proofs.Common.{refl}
use Rattle.std.specs.Fmt.{digits}
use Rattle.analysis.proofs.worked.winners.rows.Goals as goal

pub returns-clause-or_bids : goal.returns-clause-or_bids
unfolding digits
returns-clause-or_bids c = refl

pub returns-clause-xor_bids : goal.returns-clause-xor_bids
unfolding digits
returns-clause-xor_bids c = refl
