-- Files that were found at paths.
use Rattle.std.specs.Prelude.{List, map}
use Rattle.cats_cmd.specs.Opening.{Opening}
use Rattle.cats_cmd.specs.declared.folders.FoundFile.{FoundFile}

-- their paths, and how each is opened
abbrev pub found_openings : List FoundFile → List Opening
found_openings files = map (λ f. (f.path.items, f.way)) files
