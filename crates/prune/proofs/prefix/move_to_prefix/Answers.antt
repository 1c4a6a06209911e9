-- `move_to_prefix`
use Rattle.prune.proofs.Common.{rules, take_more}
use Rattle.prune.proofs.Prefixes.{swap-prefix, swap-rest}
use Rattle.prune.proofs.prefix.move_to_prefix.Goals as goal

pub returns-then-prefix-index-clause-prefix : goal.returns-then-prefix-index-clause-prefix
returns-then-prefix-index-clause-prefix g c d = search (rules, swap-prefix)

pub returns-then-prefix-index-clause-rest : goal.returns-then-prefix-index-clause-rest
returns-then-prefix-index-clause-rest g c = search (rules, swap-rest)

pub returns-else-prefix-index-clause-prefix : goal.returns-else-prefix-index-clause-prefix
returns-else-prefix-index-clause-prefix g c d = search (rules, take_more)
