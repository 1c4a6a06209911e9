-- `push_list`
use Rattle.commands.proofs.Common.{◌≡◌, ◌∷◌, ◌++◌, take, flat_map}
use Rattle.commands.proofs.printed.cells.push_list.Given as goal

-- the numbers so far are appended, each after a comma
abbrev pub invariant-loop-number : goal.invariant-loop-number
invariant-loop-number g l = l.text.items ≡ l.initial.text.items ++ flat_map (λ n. l.between ∷ g.I.Integer.text n) (take l.number-index l.rest)
