-- `may_be_subset`
use Rattle.prune.proofs.Common.{arith}
use Rattle.prune.proofs.Marks.{may_be_subset}
use Rattle.prune.proofs.fingerprints.may_be_subset.Goals as goal

pub returns : goal.returns
returns c goods other is are inside = may_be_subset c.args.marks c.args.others goods other (omega arith) (omega arith) is are inside
