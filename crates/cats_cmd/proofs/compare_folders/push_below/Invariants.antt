-- `push_below`
use Rattle.cats_cmd.proofs.Common.{◌≡◌, ◌++◌, map, paths_of, take}
use Rattle.cats_cmd.specs.TextPaths.{path_below}
use Rattle.cats_cmd.proofs.compare_folders.push_below.Given as goal

-- the files so far, each with its path below the folder
abbrev pub invariant-loop-file : goal.invariant-loop-file
invariant-loop-file l = paths_of l.paths.items ≡ paths_of l.fn.paths.items
    ++ map (λ file. path_below l.folder.path.now file.items) (take l.file-index l.file-items)
