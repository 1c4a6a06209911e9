-- `count_copies`
use Rattle.canon.proofs.Common.{ℕ, ◌+◌, ◌≤◌, List, length, Atom, offers, AreBidsOf}
use Rattle.canon.proofs.Walks.BidderWalks.{IsCounted}
use Rattle.canon.proofs.comparing.xor_bidders.count_copies.Given as goal

-- each copy took a bid at least, and the other copies are still to come
abbrev pub invariant-loop-first : goal.invariant-loop-first
invariant-loop-first g l = record {
  within : l.copies + length l.rest ≤ length l.bids;
  counted : (bidders : List (List (Atom (List ℕ)))) → AreBidsOf 0 bidders l.bids → IsCounted (offers l.bidder) bidders l.copies l.rest;
}

abbrev pub decreases-loop-first : goal.decreases-loop-first
decreases-loop-first g l = length l.rest
