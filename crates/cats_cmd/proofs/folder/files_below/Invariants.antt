-- `files_below`
use Rattle.cats_cmd.proofs.Common.{with_slash, WalksBelow}
use Rattle.cats_cmd.proofs.folder.files_below.Given as goal

abbrev pub invariant-loop : goal.invariant-loop
invariant-loop g l = WalksBelow (with_slash l.fn.path) l.walk
