-- `push_found`
use Rattle.cats_cmd.proofs.Common.{◌≡◌, ◌++◌, map, Some, found_of, paths_of}
use Rattle.cats_cmd.specs.Internal.Finding.{found_openings}
use Rattle.cats_cmd.specs.declared.source.Way.TheVariants.{Regular}
use Rattle.std.specs.Vec.Iter.{into_iter_items}
use Rattle.cats_cmd.proofs.folders.push_found.Given as goal

-- the files so far, of which only regular ones are opened, and those still to come are all
abbrev pub invariant-loop-path : goal.invariant-loop-path
invariant-loop-path l = record {
  all : found_of l.fn.found ≡ Some (paths_of (l.yielded ++ into_iter_items l.path-iterator));
  openings : found_openings l.files.items ≡ found_openings l.fn.files.items ++ map (λ path. (path.items, Regular)) l.yielded;
}
