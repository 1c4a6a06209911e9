-- `without_zeros`
use Rattle.cats_text.proofs.Common.{rules}
use Rattle.cats_text.proofs.Writing.Zeros.{zero_dropped, last_stays}
use Rattle.cats_text.proofs.price.without_zeros.Goals as goal

pub loop-left-preserved : goal.loop-left-preserved
loop-left-preserved c = search (rules, zero_dropped)

pub returns-clause-digits : goal.returns-clause-digits
returns-clause-digits c = search (rules, last_stays)
