-- The bidders of a canonical file, in the order of their bids.
use Rattle.std.specs.Prelude.{◌≡◌, ℕ, List, map}
use Rattle.bid_file.specs.Files.{PlainBid}
use Rattle.valuation.specs.declared.atom.Atom.{Atom}
use Rattle.valuation.specs.Auctions.{PlainAuction, atom_of}

-- what bids offer: their atoms
abbrev pub offers : List PlainBid → List (Atom (List ℕ))
offers bids = map atom_of bids

-- the bids of the OR bidder, and those of each XOR bidder
pub record AreBidders (a : PlainAuction) (or_bids : List PlainBid) (xor_bidders : List (List PlainBid)) : Type 0 where
  pub or : offers or_bids ≡ a.or_atoms
  pub xor : map offers xor_bidders ≡ a.xor_bidders
