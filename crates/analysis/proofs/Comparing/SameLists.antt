-- Equal lists of bids and of bidders have no changes.
use Rattle.analysis.proofs.Common.{rules, ◌≡◌, ℕ, List, [], get_or, length, range_with_len, le-ltb, All-nil, Atom, AllPairs-nil, AreBidderChanges, bidder_at}
use Rattle.analysis.proofs.Common.{excess_bidders, is_excess, ArePriceChanges}
use Rattle.analysis.proofs.Comparing.ExcessWalks.{count_from-le}
use Rattle.analysis.proofs.Comparing.LawsLists.{none_pass}

pub no_price_changes : (atoms : List (Atom (List ℕ))) → ArePriceChanges atoms atoms []
no_price_changes atoms = search (rules, AllPairs-nil, All-nil)

none_in_excess : (bidders : List (List (Atom (List ℕ)))) → excess_bidders bidders bidders ≡ []
none_in_excess bidders = let indices = range_with_len 0 (length bidders) in
    none_pass (is_excess bidders bidders) indices
    (λ k d l. let i = get_or indices k d in
    let x = bidder_at bidders i in
    search (rules, le-ltb, count_from-le))

pub no_bidder_changes : (bidders : List (List (Atom (List ℕ)))) → AreBidderChanges bidders bidders []
no_bidder_changes bidders = search (rules, All-nil, none_in_excess)
