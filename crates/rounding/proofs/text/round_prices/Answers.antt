-- `round_prices`
use Rattle.rounding.proofs.Pieces.{whole_text, whole_prices}
use Rattle.rounding.proofs.text.round_prices.Goals as goal

pub returns-clause-text : goal.returns-clause-text
returns-clause-text c =
    whole_text c.args.rule c.args.text.now c.new-rounder.result c.push.new.self c.new-rounded.result c.push.new.rounded c.finish.new.rounded
    c.in_ok-push.ensures c.in_ok-finish.ensures c.new-rounded.ensures.text c.new-rounder.ensures.text

pub returns-clause-prices : goal.returns-clause-prices
returns-clause-prices c =
    whole_prices c.args.rule c.args.text.now c.new-rounder.result c.push.new.self c.new-rounded.result c.push.new.rounded c.finish.new.rounded
    c.in_ok-push.ensures c.in_ok-finish.ensures c.new-rounded.ensures.prices c.new-rounder.ensures.prices
