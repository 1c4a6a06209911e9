-- `check_from`: the header lines of all bytes that were fed, or the fault that feeding them reported.
use Rattle.cats_text.proofs.Common.{rules, arith, common_steps, err_from_is_err_and}
use Rattle.cats_text.proofs.Feeding.Streams.{checked_reported}
use Rattle.cats_text.proofs.stream.check_from.Goals as goal

pub feed_from-requires-clause-new : goal.feed_from-requires-clause-new
feed_from-requires-clause-new g c = c.new-push_reader.ensures

pub returns-in_err-feed_from : goal.returns-in_err-feed_from
returns-in_err-feed_from g c = grind (arith, common_steps, err_from_is_err_and)

pub returns : goal.returns
returns g c = search (rules, checked_reported)
