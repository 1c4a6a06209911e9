-- `value_of`
use Rattle.rounding.proofs.Common.{rules, arith, common_steps}
use Rattle.rounding.proofs.Worth.{sizes_in, decimal_digits, cut_in, raised_in}
use Rattle.rounding.proofs.value.value_of.Goals as goal

pub shift_of-shift-requires-clause-size : goal.shift_of-shift-requires-clause-size
shift_of-shift-requires-clause-size c = grind (arith, common_steps, sizes_in)

pub cut_value-requires-clause-digits : goal.cut_value-requires-clause-digits
cut_value-requires-clause-digits c = grind (arith, common_steps, decimal_digits)

pub returns-then-shift-gt0-clause-value : goal.returns-then-shift-gt0-clause-value
returns-then-shift-gt0-clause-value c =
    cut_in c.args.tens c.args.word.now c.significand-significand.result.now c.whole_part-whole.result.now c.places-places.result.now c.exponent.result.now
    c.shift_of-shift.result.up c.shift_of-shift.result.down c.cut_value.result (search rules) c.if-shift-gt0.true c.cut_value.ensures

pub returns-clause-value : goal.returns-clause-value
returns-clause-value c = grind (arith, common_steps, raised_in)
