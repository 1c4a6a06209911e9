-- `files_at`
use Rattle.cats_cmd.proofs.Common.{map, take, AreMadeAt, openings_at}
use Rattle.cats_cmd.specs.Internal.Finding.{found_openings}
use Rattle.cats_cmd.proofs.folders.files_at.Given as goal

-- the files of the paths so far
abbrev pub invariant-loop-path : goal.invariant-loop-path
invariant-loop-path g l =
    AreMadeAt (g.S.Source.may_find (g.S.Source.content_of l.fn.source)) (openings_at l.way) (map (λ path. path.now) (take l.path-index l.fn.paths))
    (found_openings l.files.items)
