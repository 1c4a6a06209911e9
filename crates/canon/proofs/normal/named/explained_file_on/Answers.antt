-- `explained_file_on`
use Rattle.canon.proofs.Common.{rules, IfOk-weaker}
use Rattle.canon.proofs.CanonicalFiles.Numbering.{kept_numbers_are}
use Rattle.canon.proofs.normal.named.explained_file_on.Goals as goal

pub returns-clause-dummies : goal.returns-clause-dummies
returns-clause-dummies g c = search (rules, IfOk-weaker, kept_numbers_are)

pub returns-clause-fates : goal.returns-clause-fates
returns-clause-fates g c = search (rules, IfOk-weaker)
