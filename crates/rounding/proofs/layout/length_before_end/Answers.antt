-- `length_before_end`
use Rattle.rounding.proofs.Common.{arith, length, refl, sym, ◌∙◌, ◌&&◌, at_drop_all, is_blank, line_byte}
use Rattle.rounding.proofs.Spans.{further, found}
use Rattle.rounding.specs.Layouts.{before_end, is_remarked_end}
use Rattle.rounding.proofs.layout.length_before_end.Goals as goal

pub loop-offset-preserved : goal.loop-offset-preserved
loop-offset-preserved c = further before_end (λ b bs. is_blank (line_byte b bs) && is_remarked_end bs) (λ b bs. refl) c.args.line.now _ _
    c.loop-offset-test.true (sym c.is_before_end.ensures ∙ c.if-is_before_end.false) c.loop-offset.invariant

pub returns-then-is_before_end-clause-count : goal.returns-then-is_before_end-clause-count
returns-then-is_before_end-clause-count c = found before_end (λ b bs. is_blank (line_byte b bs) && is_remarked_end bs) (λ b bs. refl) c.args.line.now _ _
    c.loop-offset-test.true (sym c.is_before_end.ensures ∙ c.if-is_before_end.true) c.loop-offset.invariant

pub returns-clause-count : goal.returns-clause-count
returns-clause-count c = omega (arith, c.loop-offset.invariant, at_drop_all (λ ws. length (before_end ws)) c.args.line.now c.loop-offset.offset (omega arith))
