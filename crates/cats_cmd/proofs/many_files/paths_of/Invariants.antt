-- `paths_of`
use Rattle.cats_cmd.proofs.Common.{◌≡◌, map, take, texts_of}
use Rattle.cats_cmd.proofs.many_files.paths_of.Given as goal

-- the words so far are paths
abbrev pub invariant-loop-word : goal.invariant-loop-word
invariant-loop-word l = map (λ path. path.now) l.paths.items ≡ texts_of (take l.word-index l.words)
