-- `all_differences`: the bids and the bidders of canonical files are in order.
use Rattle.analysis.proofs.Common.{rules}
use Rattle.analysis.proofs.Comparing.Indices.{or_bids_in_order, bids_of_each_in_order, bidders_never_fall, few_bidders}
use Rattle.analysis.proofs.differences.auctions.all_differences.Goals as goal

pub price_changes-requires-clause-left_in_order : goal.price_changes-requires-clause-left_in_order
price_changes-requires-clause-left_in_order g c = search (rules, or_bids_in_order, c.requires.left_facts, c.requires.left_canonical, c.in_ok-own.ensures)

pub price_changes-requires-clause-right_in_order : goal.price_changes-requires-clause-right_in_order
price_changes-requires-clause-right_in_order g c = search (rules, or_bids_in_order, c.requires.right_facts, c.requires.right_canonical, c.in_ok-others.ensures)

pub bidder_changes-requires-clause-left_in_order : goal.bidder_changes-requires-clause-left_in_order
bidder_changes-requires-clause-left_in_order g c =
    search (rules, bids_of_each_in_order, c.deref.ensures.value, c.requires.left_facts, c.requires.left_canonical, c.in_ok-own.ensures)

pub bidder_changes-requires-clause-right_in_order : goal.bidder_changes-requires-clause-right_in_order
bidder_changes-requires-clause-right_in_order g c =
    search (rules, bids_of_each_in_order, c.deref-2.ensures.value, c.requires.right_facts, c.requires.right_canonical, c.in_ok-others.ensures)

pub bidder_changes-requires-clause-left_never_falls : goal.bidder_changes-requires-clause-left_never_falls
bidder_changes-requires-clause-left_never_falls g c =
    search (rules, bidders_never_fall, c.deref.ensures.value, c.requires.left_facts, c.requires.left_canonical, c.in_ok-own.ensures)

pub bidder_changes-requires-clause-right_never_falls : goal.bidder_changes-requires-clause-right_never_falls
bidder_changes-requires-clause-right_never_falls g c =
    search (rules, bidders_never_fall, c.deref-2.ensures.value, c.requires.right_facts, c.requires.right_canonical, c.in_ok-others.ensures)

pub bidder_changes-requires-clause-left_few : goal.bidder_changes-requires-clause-left_few
bidder_changes-requires-clause-left_few g c =
    search (rules, few_bidders, c.deref.ensures.value, c.requires.left_facts, c.requires.left_canonical, c.in_ok-own.ensures)

pub bidder_changes-requires-clause-right_few : goal.bidder_changes-requires-clause-right_few
bidder_changes-requires-clause-right_few g c =
    search (rules, few_bidders, c.deref-2.ensures.value, c.requires.right_facts, c.requires.right_canonical, c.in_ok-others.ensures)
