-- The bids of XOR bidders, split bidder by bidder: those that are split, with the bidders of the rest behind them, are all bidders.
use Rattle.canon.proofs.Common.{◌≡◌, ℕ, List, [], ◌∷◌, ◌++◌, length, map, drop, append_assoc, rules, append-nil, map-append, PlainBid, Atom, offers, AreBidsOf}
use Rattle.canon.proofs.Common.{IsFirstBidder}
use Rattle.canon.proofs.Walks.BidderWalks.{next_bidder, no_bidder}

pub record AreSplit (bidders : List (List (Atom (List ℕ)))) (split : List (List PlainBid)) (bids : List PlainBid) : Type 0 where
  pub dummy : ℕ
  pub later : List (List (Atom (List ℕ)))
  pub rest : AreBidsOf dummy later bids
  pub all : map offers split ++ later ≡ bidders

pub one_more_split : (bidders : List (List (Atom (List ℕ)))) (split : List (List PlainBid)) (bids first : List PlainBid) → IsFirstBidder bids first
    → AreSplit bidders split bids → AreSplit bidders (split ++ first ∷ []) (drop (length first) bids)
one_more_split bidders split bids first f h =
    let next = next_bidder h.dummy h.later bids first h.rest f in
    search (rules, map-append, append_assoc)

pub all_split : (bidders : List (List (Atom (List ℕ)))) (split : List (List PlainBid)) (bids : List PlainBid) → length bids ≡ 0
    → AreSplit bidders split bids → map offers split ≡ bidders
all_split bidders split bids e h = search (rules, append-nil, no_bidder)
