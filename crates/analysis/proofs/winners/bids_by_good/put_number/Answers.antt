-- `put_number`
use Rattle.analysis.proofs.Common.{rules}
use Rattle.analysis.proofs.Allocating.ByGood.{number_put}
use Rattle.analysis.proofs.winners.bids_by_good.put_number.Goals as goal

pub returns : goal.returns
returns c = search (rules, number_put, c.requires, c.index_mut-list.ensures.value, c.in_ok-push.ensures.items)
