-- `kept_bids_suffice`
use Rattle.analysis.proofs.Common.{rules, All-weaker}
use Rattle.analysis.proofs.Allocating.Replacing.{are_for}
use Rattle.analysis.proofs.Allocating.Winning.{kept_allocation, kept_each, kept_revenue, kept_winners}
use Rattle.analysis.proofs.laws.kept_bids_suffice.Goals as goal

pub returns : goal.returns
returns c = search (rules, kept_allocation, kept_revenue, kept_winners, kept_each, All-weaker, are_for)
