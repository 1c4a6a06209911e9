-- `files_of`
use Rattle.cats_cmd.proofs.Common.{◌≡◌, map, take, opening_of}
use Rattle.cats_cmd.specs.Internal.TextNumbers.{place_openings}
use Rattle.cats_cmd.proofs.publishing.files_of.Given as goal

-- the files so far
abbrev pub invariant-loop-place : goal.invariant-loop-place
invariant-loop-place l = map opening_of l.files.items ≡ place_openings (take l.place-index l.places)
