-- What each command makes of its files, and with which statuses.
use Rattle.std.specs.Prelude.{ℕ, Bool, List, [], ◌∷◌}
use Rattle.bid_file.specs.Files.{PlainFile}
use Rattle.valuation.specs.SearchLimits.{bounded_options}
use Rattle.requests.specs.Requests.{PlainRequest}
use Rattle.requests.specs.declared.task.Task.{Task}
use Rattle.requests.specs.declared.task.Task.TheVariants.{Check, Show, Value, Revenue, Normalise, Explain}
use Rattle.commands.specs.Outcomes.{Outcome}
use Rattle.commands.specs.Check.{check_outcome}
use Rattle.commands.specs.Show.{show_outcome}
use Rattle.commands.specs.Lp.{lp_outcome}
use Rattle.commands.specs.Value.{value_outcome_by}
use Rattle.commands.specs.Revenue.{revenue_outcome}
use Rattle.commands.specs.Normalise.{normalise_outcome}
use Rattle.commands.specs.Explain.{explain_outcome}

-- what a command on one file makes of it, on the bids of these numbers, if a search met its limit or did not
abbrev pub outcome_by : Task → PlainRequest → List ℕ → Bool → PlainFile → Outcome
outcome_by Check request bids met = check_outcome
outcome_by Show request bids met = show_outcome
outcome_by Value request bids met = value_outcome_by request.goods request.options met
outcome_by Revenue request bids met = revenue_outcome bids
outcome_by Normalise request bids met = normalise_outcome request.options
outcome_by Explain request bids met =
    explain_outcome (bounded_options request.options.each request.options.total)
outcome_by task request bids met = lp_outcome

-- what the command of a request makes of one file and its named bids, if a search met its limit or did not
--
-- This matters to `value --bound` alone: its search may take fewer steps than the most, and how many is not said.
abbrev pub outcome_of : PlainRequest → List ℕ → Bool → PlainFile → Outcome
outcome_of request = outcome_by request.task request

-- the statuses that only some commands have
abbrev pub own_statuses : Task → List ℕ
own_statuses Value = 3 ∷ 64 ∷ []
own_statuses Revenue = 1 ∷ 64 ∷ []
own_statuses Normalise = 3 ∷ []
own_statuses Explain = 3 ∷ []
own_statuses task = []

-- the statuses with which a command on one file may end (law)
abbrev pub statuses_of : Task → List ℕ
statuses_of task = 0 ∷ 2 ∷ 4 ∷ 5 ∷ own_statuses task
