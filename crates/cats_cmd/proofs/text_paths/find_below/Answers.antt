-- `find_below`
use Rattle.cats_cmd.proofs.Common.{arith, ◌∙◌}
use Rattle.cats_cmd.proofs.PlacingTexts.{below_next, none_below, one_below, text_at, texts_length}
use Rattle.cats_cmd.specs.Internal.TextNumbers.{plain_places}
use Rattle.cats_cmd.specs.TextPaths.{texts_at}
use Rattle.cats_cmd.proofs.text_paths.find_below.Goals as goal

pub loop-number-init : goal.loop-number-init
loop-number-init c k path above less there begins = absurd (omega (arith, less))

pub returns-in-Some : goal.returns-in-Some
returns-in-Some c =
    let place = c.index-places-number.result in
    one_below (texts_at (plain_places c.args.places.now)) c.args.numbers.now c.loop-number.number c.in-Some.first place.text.items c.requires
    (text_at c.args.places.now c.loop-number.number place c.index-places-number.is c.loop-number-test.true)
    (rw c.as_slice.ensures.value at c.in-Some.ensures)

pub loop-number-preserved : goal.loop-number-preserved
loop-number-preserved c =
    let place = c.index-places-number.result in
    below_next (texts_at (plain_places c.args.places.now)) c.args.numbers.now c.loop-number.number place.text.items
    (text_at c.args.places.now c.loop-number.number place c.index-places-number.is c.loop-number-test.true)
    (rw c.as_slice.ensures.value at c.in_default.ensures) c.loop-number.invariant

pub returns : goal.returns
returns c =
    let long = texts_length c.args.places.now in
    let end = c.loop-number-test.false in
    none_below (texts_at (plain_places c.args.places.now)) c.args.numbers.now c.loop-number.number c.requires (omega (arith, long, end))
    c.loop-number.invariant
