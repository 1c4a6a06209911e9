-- `find_taken`
use Rattle.cats_cmd.proofs.Common.{take, All, IsUtf8}
use Rattle.cats_cmd.specs.Internal.TextNumbers.{plain_places}
use Rattle.cats_cmd.specs.PublishRuns.{AreFree}
use Rattle.cats_cmd.specs.TextPaths.{texts_at}
use Rattle.cats_cmd.proofs.publishing.find_taken.Given as goal

-- nothing is at the paths of the texts so far
abbrev pub invariant-loop-place : goal.invariant-loop-place
invariant-loop-place g l =
    AreFree (g.S.Source.texts l.fn.source) l.fn.target.folder.now (take l.place-index (texts_at (plain_places l.fn.target.places.now)))
