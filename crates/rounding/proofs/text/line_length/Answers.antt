-- `line_length`
use Rattle.rounding.proofs.Common.{common_steps, arith, length, ne_eqb, eq-eqb, at_drop_all, first_line}
use Rattle.rounding.proofs.Spans.{further, found}
use Rattle.rounding.proofs.text.line_length.Goals as goal

pub loop-offset-preserved : goal.loop-offset-preserved
loop-offset-preserved c = grind (arith, common_steps, further, ne_eqb)

pub returns-then-byte-eq10-clause-count : goal.returns-then-byte-eq10-clause-count
returns-then-byte-eq10-clause-count c = grind (arith, common_steps, found, eq-eqb)

pub returns-clause-count : goal.returns-clause-count
returns-clause-count c = omega (arith, c.loop-offset.invariant, at_drop_all (λ ws. length (first_line ws)) c.args.text.now c.loop-offset.offset (omega arith))
