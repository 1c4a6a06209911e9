-- `point_in`
use Rattle.rounding.proofs.Common.{common_steps, arith, length, ne_eqb, eq-eqb, at_drop_all, whole_part}
use Rattle.rounding.proofs.Spans.{further, found}
use Rattle.rounding.proofs.decimal.point_in.Goals as goal

pub loop-offset-preserved : goal.loop-offset-preserved
loop-offset-preserved c = grind (arith, common_steps, further, ne_eqb)

pub returns-then-byte-eq46-clause-count : goal.returns-then-byte-eq46-clause-count
returns-then-byte-eq46-clause-count c = grind (arith, common_steps, found, eq-eqb)

pub returns-clause-count : goal.returns-clause-count
returns-clause-count c = omega (arith, c.loop-offset.invariant, at_drop_all (λ ws. length (whole_part ws)) c.args.word.now c.loop-offset.offset (omega arith))
