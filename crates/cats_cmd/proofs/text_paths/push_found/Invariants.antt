-- `push_found`
use Rattle.cats_cmd.proofs.Common.{◌≡◌, ◌++◌, map, take}
use Rattle.cats_cmd.specs.Internal.TextNumbers.{place_openings, plain_places}
use Rattle.cats_cmd.specs.TextPaths.{path_below}
use Rattle.cats_cmd.specs.declared.source.Way.TheVariants.{Regular}
use Rattle.cats_cmd.proofs.text_paths.push_found.Given as goal

-- the files so far, each with its path below the folder, of which only regular ones are opened
abbrev pub invariant-loop-file : goal.invariant-loop-file
invariant-loop-file l = record {
  places : plain_places l.places.items ≡ plain_places l.fn.places.items
      ++ map (λ file. record { file = file.items; text = path_below l.path file.items }) (take l.file-index l.file-items);
  openings : place_openings l.places.items ≡ place_openings l.fn.places.items ++ map (λ file. (file.items, Regular)) (take l.file-index l.file-items);
}
