-- `file_paths`
use Rattle.cats_cmd.proofs.Common.{◌≡◌, map, take, opening_of}
use Rattle.cats_cmd.specs.Internal.Finding.{found_openings}
use Rattle.cats_cmd.proofs.folders.file_paths.Given as goal

-- the paths so far
abbrev pub invariant-loop-file : goal.invariant-loop-file
invariant-loop-file l = map opening_of l.paths.items ≡ found_openings (take l.file-index l.fn.files)
