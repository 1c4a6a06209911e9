-- `fingerprint`: the marks of the goods so far are set.
use Rattle.prune.proofs.Common.{take, AreMarks}
use Rattle.prune.proofs.fingerprints.fingerprint.Given as goal

abbrev pub invariant-loop-good : goal.invariant-loop-good
invariant-loop-good l = AreMarks (take l.good-index l.goods) l.marks
