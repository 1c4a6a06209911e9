-- `check`: what a `PushReader` that was fed the whole text and counts bids answers.
use Rattle.cats_text.proofs.Common.{rules, err_from_is_err_and}
use Rattle.cats_text.proofs.Feeding.Pieces.{whole_reported}
use Rattle.cats_text.proofs.reader.check.Goals as goal

pub returns-in_err-feed : goal.returns-in_err-feed
returns-in_err-feed c =
    let fed = rw c.new-counter.ensures at c.in_err-feed.ensures in
    let reported = err_from_is_err_and c.from_residual.result c.from_residual.ensures.1 in
    rw (reported.1, reported.2)
    (whole_reported c.args.text.now c.feed.new.self.bytes c.feed.new.self.limit c.in_err-feed.field-0.0 fed.limit fed.bytes fed.answer.0)

pub returns : goal.returns
returns c = search rules
