-- `push_groups`
use Rattle.cats_cmd.proofs.Common.{◌≡◌, fold, take, plain_groups, with_group}
use Rattle.cats_cmd.proofs.duplicates.lines.push_groups.Given as goal

-- the groups so far are printed
abbrev pub invariant-loop-group : goal.invariant-loop-group
invariant-loop-group l = l.text.items ≡ fold (with_group l.ending l.all) l.initial.text.items (plain_groups (take l.group-index l.groups))
