-- The bids of XOR bidders in a canonical file.
use Rattle.std.specs.Prelude.{◌≡◌, ℕ, ◌+◌, ◌<◌, ◌≤◌, List, ◌∷◌, length, drop, eqb, Option}
use Rattle.std.specs.List.{AllByRecursion, prefix_len}
use Rattle.std.specs.Option.{option_eq}
use Rattle.bid_file.specs.Files.{PlainBid}
use Rattle.bid_file.specs.declared.limits.TheConstants.{MAX_GOODS}
use Rattle.valuation.specs.declared.atom.Atom.{Atom}
use Rattle.valuation.specs.Auctions.{PlainAuction, IsAuction}
use Rattle.canon.specs.Bidders.{offers}
use Rattle.canon.specs.Canonical.{IsCanonical, dummy_bids}

-- how many bids, from the first on, have this dummy good, or have none
abbrev pub leading : Option ℕ → List PlainBid → ℕ
leading dummy bids = prefix_len (λ b. option_eq eqb b.dummy dummy) bids

-- these are the bids of the bidders, of which each has one at least, with the dummy goods from d on
pub record AreBidsOf (d : ℕ) (bidders : List (List (Atom (List ℕ)))) (bids : List PlainBid) : Type 0 where
  pub each : AllByRecursion (λ bidder. 0 < length bidder) bidders
  pub are : bids ≡ dummy_bids d bidders

-- the leading bids are those of the first bidder, whichever bidders the bids are those of
pub record IsFirstBidder (bids first : List PlainBid) : Type 0 where
  pub some : 0 < length first
  pub within : length first ≤ length bids
  pub parts : (d : ℕ) (bidder : List (Atom (List ℕ))) (bidders : List (List (Atom (List ℕ))))
      → AreBidsOf d (bidder ∷ bidders) bids
      → (offers first ≡ bidder) × AreBidsOf (d + 1) bidders (drop (length first) bids)

-- these are the bids of the XOR bidders of the canonical auction, with the dummy goods from 0 on
pub record HasBidders (a : PlainAuction) (bids : List PlainBid) : Type 0 where
  pub facts : IsAuction MAX_GOODS a
  pub canonical : IsCanonical a
  pub are : bids ≡ dummy_bids 0 a.xor_bidders
