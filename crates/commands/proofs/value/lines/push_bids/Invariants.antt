-- `push_bids`
use Rattle.commands.proofs.Common.{◌≡◌, ◌++◌, take, numbers_text}
use Rattle.commands.proofs.value.lines.push_bids.Given as goal

-- the numbers at the places so far are printed
abbrev pub invariant-loop-place : goal.invariant-loop-place
invariant-loop-place l = l.text.items ≡ l.initial.text.items ++ numbers_text l.numbers (take l.place-index l.places)
