-- `count_blanks`
use Rattle.rounding.proofs.Common.{arith, length, not, sym, ap, ◌∙◌, at_drop_all, is_blank, line_byte, blanks}
use Rattle.rounding.proofs.Spans.{further, found, blanks_step}
use Rattle.rounding.proofs.line.count_blanks.Goals as goal

pub loop-offset-preserved : goal.loop-offset-preserved
loop-offset-preserved c = further blanks (λ b bs. not (is_blank (line_byte b bs))) blanks_step c.args.line.now _ _ c.loop-offset-test.true
    (ap not (sym c.is_blank.ensures ∙ c.if-not-is_blank.false)) c.loop-offset.invariant

pub returns-then-not-is_blank-clause-count : goal.returns-then-not-is_blank-clause-count
returns-then-not-is_blank-clause-count c = found blanks (λ b bs. not (is_blank (line_byte b bs))) blanks_step c.args.line.now _ _ c.loop-offset-test.true
    (ap not (sym c.is_blank.ensures ∙ c.if-not-is_blank.true)) c.loop-offset.invariant

pub returns-clause-count : goal.returns-clause-count
returns-clause-count c = omega (arith, c.loop-offset.invariant, at_drop_all (λ ws. length (blanks ws)) c.args.line.now c.loop-offset.offset (omega arith))
