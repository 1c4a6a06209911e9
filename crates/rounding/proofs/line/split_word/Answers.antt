-- `split_word`
use Rattle.rounding.proofs.Common.{◌∙◌, ap, take, drop}
use Rattle.rounding.proofs.Spans.{word_taken, word_dropped}
use Rattle.rounding.proofs.line.split_word.Goals as goal

pub returns-clause-word : goal.returns-clause-word
returns-clause-word c = c.split_at.ensures.front ∙ ap (λ n. take n c.args.bytes.now) c.word_length.ensures.count ∙ word_taken c.args.bytes.now

pub returns-clause-behind : goal.returns-clause-behind
returns-clause-behind c = c.split_at.ensures.back ∙ ap (λ n. drop n c.args.bytes.now) c.word_length.ensures.count ∙ word_dropped c.args.bytes.now
