-- `write_places`: the digits of the millionths behind a leading 1, without the zeros at the end: the point takes the place of that 1.
use Rattle.cats_text.proofs.Common.{rules, ◌<◌, ◌++◌, length, drop, decimal, ap, ◌∙◌, arith, length-decimal-le, decimal_nonempty}
use Rattle.cats_text.proofs.Writing.SixDigits.{places_text_none, places_written}
use Rattle.cats_text.proofs.Writing.Ends.{byte_in_place}
use Rattle.cats_text.proofs.price.write_places.Goals as goal

pub returns-then-millionths-eq0-clause-written : goal.returns-then-millionths-eq0-clause-written
returns-then-millionths-eq0-clause-written c = search (rules, places_text_none)

pub write_digits-point-requires : goal.write_digits-point-requires
write_digits-point-requires c =
    let shown = c.without_zeros.result in
    let most = c.without_zeros.ensures.size.1 in
    let places = c.requires.places in
    (omega (arith, c.requires.space, length-decimal-le 7 shown (omega arith) (omega arith) (omega arith)), c.requires.inside)

pub bounds-text-point : goal.bounds-text-point
bounds-text-point c = search (rules, decimal_nonempty)

pub returns-clause-start : goal.returns-clause-start
returns-clause-start c =
    let shown = c.without_zeros.result in
    let most = c.without_zeros.ensures.size.1 in
    let places = c.requires.places in
    let seven = length-decimal-le 7 shown (omega arith) (omega arith) (omega arith) in
    (omega (arith, c.write_digits-point.ensures.start), omega (arith, c.write_digits-point.ensures.start))

pub returns-clause-written : goal.returns-clause-written
returns-clause-written c =
    let shown = c.without_zeros.result in
    let most = c.without_zeros.ensures.size.1 in
    let places = c.requires.places in
    let some = decimal_nonempty shown (omega arith) in
    let inside : c.write_digits-point.result < length c.write_digits-point.new.buf = omega (arith, c.requires.inside, c.write_digits-point.ensures.start) in
    let rest = drop c.args.end c.args.text.now in
    byte_in_place c.write_digits-point.new.buf (decimal shown) rest c.write_digits-point.result 46 inside some c.write_digits-point.ensures.written
    ∙ ap (λ t. t ++ rest) (places_written shown c.args.millionths (omega arith) places c.without_zeros.ensures.digits)
