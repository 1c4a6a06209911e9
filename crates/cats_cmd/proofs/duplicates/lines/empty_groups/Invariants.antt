-- `empty_groups`
use Rattle.cats_cmd.proofs.Common.{◌≡◌, [], replicate, plain_groups}
use Rattle.cats_cmd.proofs.duplicates.lines.empty_groups.Given as goal

-- so many groups are made
abbrev pub invariant-loop : goal.invariant-loop
invariant-loop l = plain_groups l.groups.items ≡ replicate l.counter []
