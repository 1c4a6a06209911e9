-- `fates_reach`
use Rattle.prune.proofs.Common.{or_fate-reaches, xor_fate-reaches}
use Rattle.prune.proofs.laws.fates_reach.Goals as goal

pub returns-clause-or : goal.returns-clause-or
returns-clause-or c = or_fate-reaches

pub returns-clause-xor : goal.returns-clause-xor
returns-clause-xor c = xor_fate-reaches
