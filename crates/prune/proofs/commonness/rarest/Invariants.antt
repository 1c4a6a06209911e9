-- `rarest`: the good chosen so far is one of them.
use Rattle.prune.proofs.Common.{◌≡◌, true, has_good}
use Rattle.prune.proofs.commonness.rarest.Given as goal

abbrev pub invariant-loop-good : goal.invariant-loop-good
invariant-loop-good l = has_good l.goods l.best ≡ true
