-- `write_dummy`
use Rattle.cats_text.proofs.Common.{◌+◌, arith, length-decimal-le}
use Rattle.cats_text.proofs.layout.write_dummy.Goals as goal

pub write_good-requires-clause-space : goal.write_good-requires-clause-space
write_good-requires-clause-space c =
    omega (arith, c.requires.space, length-decimal-le 10 (c.from.result + c.from-in-Some.result) (omega arith) (omega arith) (omega arith))

pub returns-in-Some-clause-start : goal.returns-in-Some-clause-start
returns-in-Some-clause-start c =
    let short = length-decimal-le 10 (c.from.result + c.from-in-Some.result) (omega arith) (omega arith) (omega arith) in
    (omega (arith, c.write_good.ensures.start), omega (arith, c.write_good.ensures.start, short))
