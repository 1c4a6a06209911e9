-- `report_prices`
use Rattle.cats_cmd.proofs.Common.{map, take, plain_changes, rounded_line, ReportsAll}
use Rattle.cats_cmd.proofs.round.report_prices.Given as goal

-- the prices so far were reported
abbrev pub invariant-loop-price : goal.invariant-loop-price
invariant-loop-price g l = ReportsAll g.E.Write.contents (map rounded_line (plain_changes (take l.price-index l.prices))) l.initial.err l.err
