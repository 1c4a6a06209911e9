-- `lines_reported`
use Rattle.cats_cmd.proofs.Common.{Err, Ok, refl, inr, arith}
use Rattle.cats_cmd.proofs.worked.lines_reported.Goals as goal

pub returns-clause-sent : goal.returns-clause-sent
returns-clause-sent c = inr (refl, record { answer = Ok tt; sends = record { appended = refl; works = refl } })

pub returns-clause-part : goal.returns-clause-part
returns-clause-part c = inr (refl, record { answer = Err (record { written = 1 }); sends = record { within = omega arith; appended = refl; failed = refl } })
