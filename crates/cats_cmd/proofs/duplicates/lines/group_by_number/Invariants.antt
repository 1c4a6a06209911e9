-- `group_by_number`
use Rattle.cats_cmd.proofs.Common.{◌≡◌, length, map, take, range_with_len, found_paths, paths_at, plain_groups}
use Rattle.cats_cmd.proofs.duplicates.lines.group_by_number.Given as goal

-- the paths of the files so far are there
abbrev pub invariant-loop-path : goal.invariant-loop-path
invariant-loop-path l = plain_groups l.groups.items ≡ map (paths_at (take l.path-index (found_paths l.found))) (range_with_len 0 (length l.found))
