-- `whole_part`
use Rattle.rounding.proofs.Spans.{point_cut}
use Rattle.rounding.proofs.decimal.whole_part.Goals as goal

pub returns : goal.returns
returns c = rw c.point_in.ensures.count ((point_cut c.args.word.now).taken)
