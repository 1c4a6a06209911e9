-- `change_of`: each of the two has the bids of the bidder at its index, or none.
use Rattle.analysis.proofs.Common.{rules}
use Rattle.analysis.proofs.Comparing.BidsOfBidders.{within, bids_in_order, bids_at_are, none_at, changes_at, none_of_both}
use Rattle.analysis.proofs.differences.bidder_changes.change_of.Goals as goal

pub price_changes-requires-clause-left_in_order : goal.price_changes-requires-clause-left_in_order
price_changes-requires-clause-left_in_order g c = search (rules, bids_in_order, within, c.requires.own, c.index-left-own.is, c.requires.left_in_order)

pub price_changes-requires-clause-right_in_order : goal.price_changes-requires-clause-right_in_order
price_changes-requires-clause-right_in_order g c = search (rules, bids_in_order, within, c.requires.other, c.index-right-other.is, c.requires.right_in_order)

pub price_changes-requires-in-Some-None-clause-left_in_order : goal.price_changes-requires-in-Some-None-clause-left_in_order
price_changes-requires-in-Some-None-clause-left_in_order g c =
    search (rules, bids_in_order, within, c.requires.own, c.index-left-own-in-Some-None.is, c.requires.left_in_order)

pub price_changes-requires-in-None-Some-clause-right_in_order : goal.price_changes-requires-in-None-Some-clause-right_in_order
price_changes-requires-in-None-Some-clause-right_in_order g c =
    search (rules, bids_in_order, within, c.requires.other, c.index-right-other-in-None-Some.is, c.requires.right_in_order)

pub returns-clause-change : goal.returns-clause-change
returns-clause-change g c = search (rules, changes_at, bids_at_are, within, none_at, none_of_both)
