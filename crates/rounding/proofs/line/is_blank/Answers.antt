-- `is_blank`
use Rattle.rounding.proofs.Words.{blank_if_return}
use Rattle.rounding.proofs.line.is_blank.Goals as goal

pub returns-then-byte-eq13 : goal.returns-then-byte-eq13
returns-then-byte-eq13 c = blank_if_return c.args.line.now c.args.offset c.line_ends.result c.if-byte-eq13.true c.line_ends.ensures
