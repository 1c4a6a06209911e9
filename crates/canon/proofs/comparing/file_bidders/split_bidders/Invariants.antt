-- `split_bidders`
use Rattle.canon.proofs.Common.{ℕ, List, length, Atom, AreBidsOf}
use Rattle.canon.proofs.Walks.SplitBidders.{AreSplit}
use Rattle.canon.proofs.comparing.file_bidders.split_bidders.Given as goal

-- the bidders so far are split, and the others are still to come
abbrev pub invariant-loop-first : goal.invariant-loop-first
invariant-loop-first g l = (bidders : List (List (Atom (List ℕ)))) → AreBidsOf 0 bidders l.bids → AreSplit bidders l.split.items l.rest

abbrev pub decreases-loop-first : goal.decreases-loop-first
decreases-loop-first g l = length l.rest
