-- `text_places_at`
use Rattle.cats_cmd.proofs.Common.{ℕ, List, [], Bor, found_of, openings_at}
use Rattle.cats_cmd.proofs.FilesOfPaths.{next_made}
use Rattle.cats_cmd.specs.TextPaths.{text_places_at}
use Rattle.cats_cmd.proofs.text_paths.text_places_at.Goals as goal

abbrev nowhere : Bor (List ℕ)
nowhere = record { ref_ptr = (0, 0); now = [] }

pub loop-path-preserved : goal.loop-path-preserved
loop-path-preserved g c =
    let finds = g.S.Source.may_find (g.S.Source.content_of c.args.source.now) in
    let found = found_of c.in_ok-found.found in
    record {
      places = next_made finds text_places_at c.args.paths.now c.loop-path.path-index nowhere c.loop-path-test.true _ _ c.loop-path.invariant.places found
          c.in_ok-found.ensures c.in_ok-push_found.ensures.places;
      openings = next_made finds (openings_at c.args.way) c.args.paths.now c.loop-path.path-index nowhere c.loop-path-test.true _ _
          c.loop-path.invariant.openings found c.in_ok-found.ensures c.in_ok-push_found.ensures.openings;
    }
