-- `push_found`
use Rattle.cats_cmd.proofs.Common.{◌≡◌, ◌++◌, ℕ, List, Some, Vec, Global, Opening, arith, openings_found, paths_of, subst}
use Rattle.cats_cmd.proofs.FilesOfPaths.{all_below}
use Rattle.cats_cmd.specs.Internal.TextNumbers.{place_openings, plain_places}
use Rattle.cats_cmd.specs.TextPaths.{path_below, text_places_of}
use Rattle.cats_cmd.specs.declared.source.Way.TheVariants.{Regular}
use Rattle.cats_cmd.proofs.text_paths.push_found.Goals as goal

pub returns-clause-places : goal.returns-clause-places
returns-clause-places c =
    rw c.in-Some.is (subst (λ (files : List (Vec ℕ Global)). plain_places c.loop-file.places.items
    ≡ plain_places c.args.places.now.items ++ text_places_of c.args.path.now (Some (paths_of files))) c.as_slice-file-items.ensures.value
    (all_below (λ file. record { file = file; text = path_below c.args.path.now file }) c.as_slice-file-items.result.now c.loop-file.file-index _ _
    (omega (arith, c.loop-file-test.false)) c.loop-file.invariant.places))

pub returns-clause-openings : goal.returns-clause-openings
returns-clause-openings c =
    rw c.in-Some.is (subst (λ (files : List (Vec ℕ Global)). place_openings c.loop-file.places.items
    ≡ place_openings c.args.places.now.items ++ openings_found c.args.way c.args.path.now (Some (paths_of files))) c.as_slice-file-items.ensures.value
    (all_below {A = Opening} (λ file. (file, Regular)) c.as_slice-file-items.result.now c.loop-file.file-index _ _
    (omega (arith, c.loop-file-test.false)) c.loop-file.invariant.openings))
