-- `named_bids_are_refused`: the law of named bids, by the proof over lists.
use Rattle.commands.proofs.NamedBids.{named_is_on}
use Rattle.commands.proofs.laws.named_bids_are_refused.Goals as goal

pub returns : goal.returns
returns c = λ options f bundle e.
    let named = named_is_on options f bundle e in (named.0, named.1 _)
