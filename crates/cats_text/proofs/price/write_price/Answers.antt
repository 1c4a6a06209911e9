-- `write_price`
use Rattle.cats_text.proofs.Common.{◌/◌, arith, length-decimal-le, decimal_nonempty}
use Rattle.cats_text.proofs.price.write_price.Goals as goal

pub write_digits-requires : goal.write_digits-requires
write_digits-requires c =
    let start = c.write_places-point.ensures.start in
    let space = c.requires.space in
    let inside = c.requires.inside in
    (omega (arith, start.1, length-decimal-le 20 (c.args.millionths / 1000000) (omega arith) (omega arith) (omega arith)), omega (arith, start.0))

pub returns-clause-start : goal.returns-clause-start
returns-clause-start c =
    let start = c.write_places-point.ensures.start in
    let whole = c.args.millionths / 1000000 in
    let twenty = length-decimal-le 20 whole (omega arith) (omega arith) (omega arith) in
    let digits = c.write_digits.ensures.start in
    (omega (arith, start.0, decimal_nonempty whole (omega arith)), omega (arith, start.1))
