-- `significand`
use Rattle.rounding.proofs.Spans.{mark_cut}
use Rattle.rounding.proofs.decimal.significand.Goals as goal

pub returns : goal.returns
returns c = rw c.mark_in.ensures.count ((mark_cut c.args.word.now).taken)
