-- `places`
use Rattle.rounding.proofs.Spans.{point_cut, behind_cut, behind_end}
use Rattle.rounding.proofs.decimal.places.Goals as goal

pub returns-then-point-word : goal.returns-then-point-word
returns-then-point-word c = behind_cut _ _ _ _ _ (point_cut c.args.word.now) c.point_in-point.ensures.count c.if-point-word.true

pub returns-else-point-word : goal.returns-else-point-word
returns-else-point-word c = behind_end _ _ _ _ _ (point_cut c.args.word.now) c.point_in-point.ensures.count c.if-point-word.false
