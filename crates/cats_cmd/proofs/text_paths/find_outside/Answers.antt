-- `find_outside`
use Rattle.cats_cmd.proofs.Common.{◌≡◌, true, false, rules, arith}
use Rattle.cats_cmd.proofs.PlacingTexts.{all_lead, leads_next, text_at, texts_length}
use Rattle.cats_cmd.specs.Internal.TextNumbers.{plain_places}
use Rattle.cats_cmd.specs.TextPaths.{leads_below, texts_at}
use Rattle.cats_cmd.proofs.text_paths.find_outside.Goals as goal

pub returns-then-not-branch : goal.returns-then-not-branch
returns-then-not-branch c =
    let place = c.index-places-number.result in
    let leads : leads_below place.text.items ≡ false = search rules in
    record {
      text = place.text.items;
      there = text_at c.args.places.now c.loop-number.number place c.index-places-number.is c.loop-number-test.true;
      leads_out = leads;
    }

pub loop-number-preserved : goal.loop-number-preserved
loop-number-preserved c =
    let place = c.index-places-number.result in
    let leads : leads_below place.text.items ≡ true = search rules in
    leads_next (texts_at (plain_places c.args.places.now)) c.loop-number.number place.text.items
    (text_at c.args.places.now c.loop-number.number place c.index-places-number.is c.loop-number-test.true) leads c.loop-number.invariant

pub returns : goal.returns
returns c =
    let long = texts_length c.args.places.now in
    let end = c.loop-number-test.false in
    all_lead (texts_at (plain_places c.args.places.now)) c.loop-number.number (omega (arith, long, end)) c.loop-number.invariant
