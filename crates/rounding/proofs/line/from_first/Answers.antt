-- `from_first`
use Rattle.rounding.proofs.Common.{◌∙◌, ap, drop, take_rest}
use Rattle.rounding.proofs.Spans.{blanks_dropped}
use Rattle.rounding.proofs.line.from_first.Goals as goal

pub returns : goal.returns
returns c = take_rest c.args.line.now c.count_blanks.result ∙ ap (λ n. drop n c.args.line.now) c.count_blanks.ensures.count
    ∙ blanks_dropped c.args.line.now
