-- `number_texts`
use Rattle.cats_cmd.proofs.Common.{◌≡◌, ◌∙◌, ℕ, List, Some, cond, rules, arith, subst, sym, Vec, Global}
use Rattle.cats_cmd.proofs.PlacingTexts.{all_numbered, no_numbers, numbers_next, same_texts, text_at, texts_length}
use Rattle.canon.specs.Lemmas.TextMaps.{updated}
use Rattle.cats_cmd.specs.Internal.TextNumbers.{number_in, plain_places}
use Rattle.cats_cmd.specs.TextPaths.{texts_at}
use Rattle.std.specs.Prelude.{bytes_eq}
use Rattle.cats_cmd.proofs.text_paths.number_texts.Goals as goal

pub loop-number-init : goal.loop-number-init
loop-number-init c = no_numbers c.new-numbers.result c.new-numbers.ensures.empty

pub returns-in-Some : goal.returns-in-Some
returns-in-Some c =
    let place = c.index-places-number.result in
    same_texts (texts_at (plain_places c.args.places.now)) c.loop-number.number c.in-Some.first.now place.text.items c.loop-number.numbers
    (text_at c.args.places.now c.loop-number.number place c.index-places-number.is c.loop-number-test.true) c.loop-number.invariant
    (rw c.as_slice-text.ensures.value at (sym c.in-Some.ensures.value))

pub loop-number-preserved : goal.loop-number-preserved
loop-number-preserved c =
    let place = c.index-places-number.result in
    numbers_next (texts_at (plain_places c.args.places.now)) c.loop-number.number place.text.items c.loop-number.numbers c.insert.new.self
    (text_at c.args.places.now c.loop-number.number place c.index-places-number.is c.loop-number-test.true) c.loop-number.invariant
    (rw c.as_slice-text.ensures.value at (sym c.in_default.ensures.value))
    (subst (λ (text : List ℕ). (other : List ℕ) → number_in c.insert.new.self other
    ≡ cond (bytes_eq text other) (Some c.loop-number.number) (number_in c.loop-number.numbers other))
    (c.in_ok-from_slice.ensures.items ∙ c.as_slice-text.ensures.value)
    (updated (λ (key : Vec ℕ Global). key.items) c.loop-number.numbers c.insert.new.self c.in_ok-from_slice.field-0.items c.loop-number.number
    c.in_ok-insert.ensures.updates))

pub returns : goal.returns
returns c =
    let long = texts_length c.args.places.now in
    let end = c.loop-number-test.false in
    all_numbered (texts_at (plain_places c.args.places.now)) c.loop-number.number c.loop-number.numbers (omega (arith, long, end)) c.loop-number.invariant
