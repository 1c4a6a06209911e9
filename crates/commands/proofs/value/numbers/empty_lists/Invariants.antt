-- `empty_lists`
use Rattle.commands.proofs.Common.{◌≡◌, [], replicate, lists_of}
use Rattle.commands.proofs.value.numbers.empty_lists.Given as goal

-- so many lists are made
abbrev pub invariant-loop : goal.invariant-loop
invariant-loop l = lists_of l.lists.items ≡ replicate l.counter []
