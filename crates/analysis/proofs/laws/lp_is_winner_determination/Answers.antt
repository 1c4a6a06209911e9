-- `lp_is_winner_determination`
use Rattle.analysis.proofs.Common.{rules, ◌∙◌}
use Rattle.analysis.proofs.Allocating.Allocations.{revenue_at_most, winners_there}
use Rattle.analysis.proofs.Allocating.LpRows.{all_win_from_rows, objective_is_revenue, rows_met, sums_are_exact}
use Rattle.analysis.proofs.laws.lp_is_winner_determination.Goals as goal

pub returns-clause-rows : goal.returns-clause-rows
returns-clause-rows c = λ f is winners h. rows_met f is winners h.numbers h.win

pub returns-clause-allocation : goal.returns-clause-allocation
returns-clause-allocation c = λ f is winners numbers met. record { numbers = numbers; win = all_win_from_rows f is winners numbers met }

pub returns-clause-objective : goal.returns-clause-objective
returns-clause-objective c = λ f winners numbers. objective_is_revenue f winners numbers

pub returns-clause-most : goal.returns-clause-most
returns-clause-most c = search (rules, objective_is_revenue, revenue_at_most, all_win_from_rows)

pub returns-clause-reached : goal.returns-clause-reached
returns-clause-reached c = λ f is.
    let best = winners_there f in
    let allocation = best.1.allocation in (
      best.0,
      allocation.numbers,
      rows_met f is best.0 allocation.numbers allocation.win,
      objective_is_revenue f best.0 allocation.numbers ∙ best.1.greatest,
    )

pub returns-clause-exact : goal.returns-clause-exact
returns-clause-exact c = λ f all winners. sums_are_exact f all winners
