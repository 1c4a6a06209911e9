-- `find_from`
use Rattle.std.proofs.Common.{◌≡◌, length}
use Rattle.cats_c.proofs.call.texts.find_from.Given as goal

-- all texts are looked at
abbrev pub invariant-loop-number : goal.invariant-loop-number
invariant-loop-number l = l.number-end ≡ length l.texts
