-- `word_length`
use Rattle.rounding.proofs.Common.{arith, length, refl, sym, ◌∙◌, at_drop_all, is_blank, line_byte, leading_word}
use Rattle.rounding.proofs.Spans.{further, found}
use Rattle.rounding.proofs.line.word_length.Goals as goal

pub loop-offset-preserved : goal.loop-offset-preserved
loop-offset-preserved c = further leading_word (λ b bs. is_blank (line_byte b bs)) (λ b bs. refl) c.args.line.now _ _
    c.loop-offset-test.true (sym c.is_blank.ensures ∙ c.if-is_blank.false) c.loop-offset.invariant

pub returns-then-is_blank-clause-count : goal.returns-then-is_blank-clause-count
returns-then-is_blank-clause-count c = found leading_word (λ b bs. is_blank (line_byte b bs)) (λ b bs. refl) c.args.line.now _ _
    c.loop-offset-test.true (sym c.is_blank.ensures ∙ c.if-is_blank.true) c.loop-offset.invariant

pub returns-clause-count : goal.returns-clause-count
returns-clause-count c = omega (arith, c.loop-offset.invariant, at_drop_all (λ ws. length (leading_word ws)) c.args.line.now c.loop-offset.offset (omega arith))
