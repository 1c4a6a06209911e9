-- `find_taken`
use Rattle.cats_cmd.proofs.Common.{◌≡◌, arith}
use Rattle.cats_cmd.proofs.PlacingTexts.{text_at, texts_length}
use Rattle.cats_cmd.proofs.PublishRuns.{all_free, free_next}
use Rattle.cats_cmd.specs.Internal.TextNumbers.{plain_places}
use Rattle.cats_cmd.specs.Stores.{path_in}
use Rattle.cats_cmd.specs.TextPaths.{texts_at}
use Rattle.cats_cmd.proofs.publishing.find_taken.Goals as goal

pub returns-then-branch : goal.returns-then-branch
returns-then-branch g c =
    let place = c.place-item.result in
    let folder = c.args.target.folder.now in
    let same : c.in_ok-path_in.field-0.items ≡ path_in folder place.text.items =
    rw (c.as_bytes.ensures.value, c.as_slice-text.ensures.value) at c.in_ok-path_in.ensures in
    record {
      number = c.loop-place.place-index;
      text = place.text.items;
      there = text_at c.args.target.places.now c.loop-place.place-index place c.place-item.is c.loop-place-test.true;
      is = same;
      may = rw same (rw (c.as_slice-text.ensures.value, c.if-branch.true) at c.in_ok-is_taken_at.ensures);
    }

pub loop-place-preserved : goal.loop-place-preserved
loop-place-preserved g c =
    let place = c.place-item.result in
    free_next _ c.args.target.folder.now (texts_at (plain_places c.args.target.places.now)) c.loop-place.place-index place.text.items
    (text_at c.args.target.places.now c.loop-place.place-index place c.place-item.is c.loop-place-test.true)
    (rw (c.as_slice-text.ensures.value, c.if-branch.false) at c.in_ok-is_taken_at.ensures) c.loop-place.invariant

pub returns : goal.returns
returns g c =
    let long = texts_length c.args.target.places.now in
    let end = c.loop-place-test.false in
    all_free _ c.args.target.folder.now (texts_at (plain_places c.args.target.places.now)) c.loop-place.place-index (omega (arith, long, end))
    c.loop-place.invariant
