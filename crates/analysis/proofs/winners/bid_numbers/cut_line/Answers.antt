-- `cut_line`
use Rattle.analysis.proofs.Common.{rules, sym, ◌∙◌, take_rest}
use Rattle.analysis.proofs.Allocating.NumberLines.{cut, last}
use Rattle.analysis.proofs.winners.bid_numbers.cut_line.Goals as goal

pub returns-in-Some-clause-some : goal.returns-in-Some-clause-some
returns-in-Some-clause-some c = search (rules, cut, take_rest, c.line_feed.ensures, c.in-Some.is)

pub returns-in-None-clause-none : goal.returns-in-None-clause-none
returns-in-None-clause-none c = last c.args.text.now (sym c.line_feed.ensures ∙ c.in-None.is)
