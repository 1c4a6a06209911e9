-- `explained_normal_file`
use Rattle.canon.proofs.Common.{rules, IfOk-weaker, map-map}
use Rattle.canon.proofs.normal.named.explained_normal_file.Goals as goal

pub returns-clause-xor_fates : goal.returns-clause-xor_fates
returns-clause-xor_fates c = search (rules, IfOk-weaker, map-map)
