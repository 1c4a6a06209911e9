-- `BidCountKeep::add_from`
use Rattle.cats_text.proofs.Common.{rules, replicate_next}
use Rattle.cats_text.proofs.Parsing.BidsByNumber.{same_bid}
use Rattle.cats_text.proofs.keep.BidCountKeep.add_from.Goals as goal

pub returns : goal.returns
returns c bid e = search (rules, replicate_next, same_bid)
