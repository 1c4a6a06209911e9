-- `mark_in`
use Rattle.rounding.proofs.Common.{common_steps, arith, length, at_drop_all, significand}
use Rattle.rounding.proofs.Spans.{further, found}
use Rattle.rounding.proofs.decimal.mark_in.Goals as goal

pub loop-offset-preserved : goal.loop-offset-preserved
loop-offset-preserved c = grind (arith, common_steps, further)

pub returns-then-is_exponent_mark-clause-count : goal.returns-then-is_exponent_mark-clause-count
returns-then-is_exponent_mark-clause-count c = grind (arith, common_steps, found)

pub returns-clause-count : goal.returns-clause-count
returns-clause-count c = omega (arith, c.loop-offset.invariant, at_drop_all (λ ws. length (significand ws)) c.args.word.now c.loop-offset.offset (omega arith))
