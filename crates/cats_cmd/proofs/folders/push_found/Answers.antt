-- `push_found`
use Rattle.cats_cmd.proofs.Common.{rules, found_of}
use Rattle.cats_cmd.proofs.FilesOfPaths.{openings_below}
use Rattle.std.proofs.lemmas.List.{nil_from_length}
use Rattle.std.specs.Vec.Iter.{into_iter_items}
use Rattle.cats_cmd.proofs.folders.push_found.Goals as goal

pub returns : goal.returns
returns c =
    openings_below c.args.way c.args.path.now (found_of c.args.found) c.loop-path.yielded (into_iter_items c.loop-path.path-iterator) _ _
    c.loop-path.invariant.all (search (rules, nil_from_length)) c.loop-path.invariant.openings
