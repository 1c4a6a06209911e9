-- `exponent`
use Rattle.rounding.proofs.Spans.{mark_cut, behind_cut, behind_end}
use Rattle.rounding.proofs.decimal.exponent.Goals as goal

pub returns-then-mark-word : goal.returns-then-mark-word
returns-then-mark-word c = behind_cut _ _ _ _ _ (mark_cut c.args.word.now) c.mark_in-mark.ensures.count c.if-mark-word.true

pub returns-else-mark-word : goal.returns-else-mark-word
returns-else-mark-word c = behind_end _ _ _ _ _ (mark_cut c.args.word.now) c.mark_in-mark.ensures.count c.if-mark-word.false
