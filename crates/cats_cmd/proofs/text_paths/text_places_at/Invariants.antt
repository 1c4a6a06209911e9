-- `text_places_at`
use Rattle.cats_cmd.proofs.Common.{map, take, AreMadeAt, openings_at}
use Rattle.cats_cmd.specs.Internal.TextNumbers.{place_openings, plain_places}
use Rattle.cats_cmd.specs.TextPaths.{AreTextPlaces}
use Rattle.cats_cmd.proofs.text_paths.text_places_at.Given as goal

-- the files of the paths so far
abbrev pub invariant-loop-path : goal.invariant-loop-path
invariant-loop-path g l = record {
  places : AreTextPlaces (g.S.Source.may_find (g.S.Source.content_of l.fn.source)) (map (λ path. path.now) (take l.path-index l.fn.paths))
      (plain_places l.places.items);
  openings : AreMadeAt (g.S.Source.may_find (g.S.Source.content_of l.fn.source)) (openings_at l.way)
      (map (λ path. path.now) (take l.path-index l.fn.paths)) (place_openings l.places.items);
}
