-- `bidder_verdict`
use Rattle.canon.proofs.Common.{rules, sym, ap, xor_difference}
use Rattle.canon.proofs.Walks.BidderWalks.{bids_of_canonical, numbers_named}
use Rattle.canon.proofs.Walks.OrWalks.{on_err}
use Rattle.canon.proofs.comparing.xor_bidders.bidder_verdict.Goals as goal

pub returns-in-None-clause-verdict : goal.returns-in-None-clause-verdict
returns-in-None-clause-verdict g c = λ a b h k. sym (ap (xor_difference a b) (c.in-None.ensures a b h k))

pub returns-in_ok-named_bids-in-Some-clause-verdict : goal.returns-in_ok-named_bids-in-Some-clause-verdict
returns-in_ok-named_bids-in-Some-clause-verdict g c = search (rules, numbers_named, bids_of_canonical)

pub returns-in_err-named_bids-in-Some-clause-memory : goal.returns-in_err-named_bids-in-Some-clause-memory
returns-in_err-named_bids-in-Some-clause-memory g c = search (rules, on_err)
