-- `first_clash`
use Rattle.analysis.proofs.Allocating.FindingClashes.{IsWalked}
use Rattle.analysis.proofs.winners.clashes.first_clash.Given as goal

abbrev pub invariant-loop-index : goal.invariant-loop-index
invariant-loop-index l = IsWalked l.file l.winners l.index l.holders.items l.clash
