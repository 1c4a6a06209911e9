-- `fingerprint`
use Rattle.prune.proofs.Common.{rules}
use Rattle.prune.proofs.Marks.{no_marks, marks_more}
use Rattle.prune.proofs.fingerprints.fingerprint.Goals as goal

pub loop-good-init : goal.loop-good-init
loop-good-init c = no_marks

pub loop-good-preserved : goal.loop-good-preserved
loop-good-preserved c = search (rules, marks_more)
