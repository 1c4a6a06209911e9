-- `write_number_and_price`
use Rattle.cats_text.proofs.Common.{arith, rules, length-decimal-le}
use Rattle.cats_text.proofs.layout.write_number_and_price.Goals as goal

pub write_digits-requires : goal.write_digits-requires
write_digits-requires c =
    let start = c.write_price-tab.ensures.start in
    (omega (arith, start.1, length-decimal-le 20 c.args.number (omega arith) (omega arith) (omega arith)), search rules)
