-- `push_lines`
use Rattle.cats_cmd.proofs.Common.{◌≡◌, ◌++◌, map, take, lines_of}
use Rattle.cats_cmd.proofs.duplicates.lines.push_lines.Given as goal

-- the paths so far are printed
abbrev pub invariant-loop-path : goal.invariant-loop-path
invariant-loop-path l = l.text.items ≡ l.initial.text.items ++ lines_of l.ending (map (λ path. path.now) (take l.path-index l.paths))
