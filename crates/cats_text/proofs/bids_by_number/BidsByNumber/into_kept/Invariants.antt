-- `BidsByNumber::into_kept`
use Rattle.cats_text.proofs.Common.{◌≡◌, take, filled, arrived}
use Rattle.cats_text.proofs.bids_by_number.BidsByNumber.into_kept.Given as goal

abbrev pub invariant-loop-arrival : goal.invariant-loop-arrival
invariant-loop-arrival g l = g.K.Keep.bids l.kept ≡ filled (arrived (g.K.Keep.bids l.came) (take l.arrival-index l.arrival-items))
